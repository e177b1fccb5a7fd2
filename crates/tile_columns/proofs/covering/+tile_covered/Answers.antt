-- The tile of the axes behind, and the part of the first one.
use Rattle.std.proofs.Common.{◌-◌, ◌≤◌, arith, List, length, take, drop, subst, sym}
use Rattle.std.proofs.lemmas.Grind.{common_steps}
use Rattle.arr_core.specs.declared.domain.Axis.{Axis}
use Rattle.arr_core.specs.Domains.{count}
use Rattle.arr_core.specs.Limits.{max_points}
use Rattle.arr_core.proofs.Points.{count-rest}
use Rattle.arr_core.proofs.Grids.{count-grid}
use Rattle.arr_core.proofs.FirstAxis.{cut}
use Rattle.tile_columns.proofs.Locating.{cut_first}
use Rattle.tile_columns.proofs.Coverings.{turns_more}
use Rattle.tile_columns.proofs.covering.+tile_covered.Goals as goal

pub in_front-requires-clause-behind : goal.in_front-requires-clause-behind
in_front-requires-clause-behind t c =
    let axes = c.args.axes.now in
    let rest = take (length axes - 1) (drop 1 axes) in
    let a = c.axis-item.result in
    let e = cut axes a c.in-len1-up.len_at_least c.axis-item.is in
    let few : count axes ≤ max_points = c.requires.few in
    let least : count rest ≤ count axes = subst (λ (x : List Axis). count rest ≤ count x) (sym e) (count-rest a rest) in
    (c.in-Some.ensures.number, omega (arith, c.in-Some.ensures.tiles, count-grid c.args.edge rest, least, few), c.if-behind.false)

pub returns-in-Some-part_under : goal.returns-in-Some-part_under
returns-in-Some-part_under t c =
    let e = cut c.args.axes.now c.axis-item.result c.in-len1-up.len_at_least c.axis-item.is in
    turns_more c.args.edge c.args.variables.now c.args.axes.now _ c.axis-item.result c.args.indexes.now _ _ c.in-Some-part_under.part c.in-Some.behind c.in_front.result
    e (cut_first c.args.indexes.now _ c.in-len1-up-indexes.len_at_least) c.in-Some.ensures c.in-Some-part_under.ensures.turns
    c.in_front.ensures.number c.in_front.ensures.tiles c.in_front.ensures.points

pub tile_covered-requires : goal.tile_covered-requires
tile_covered-requires t c = grind (arith, common_steps)

pub returns-in-empty-indexes : goal.returns-in-empty-indexes
returns-in-empty-indexes t c = grind (arith, common_steps)
