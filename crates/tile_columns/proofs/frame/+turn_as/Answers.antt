-- The index of the first axis, and those of the others.
use Rattle.std.proofs.Common.{◌/◌, ap, rules, arith, SFits, w32}
use Rattle.std.proofs.lemmas.Int.{to_z-of_z}
use Rattle.arr_core.proofs.Points.{count-pos}
use Rattle.arr_core.proofs.FirstAxis.{cut, step}
use Rattle.tile_columns.proofs.Turns.{turns_first}
use Rattle.tile_columns.proofs.Locating.{cut_first}
use Rattle.tile_columns.proofs.frame.+turn_as.Goals as goal

pub turn_as-requires : goal.turn_as-requires
turn_as-requires t c =
    let e = cut c.args.axes.now c.axis-item.result c.in-len1-up.len_at_least c.axis-item.is in
    let s = step _ _ _ c.args.total (c.args.total / c.size.result) 0 e c.requires.ordered c.requires.counted (omega (arith, c.requires.counted, count-pos c.args.axes.now)) (ap (λ k. c.args.total / k) c.size.ensures.value) in
    (search rules, (s.ordered, s.left))

pub returns-else-not-turns_as : goal.returns-else-not-turns_as
returns-else-not-turns_as t c = λ h place.
    let lo : SFits w32 c.axis-item.result.lo = search rules in
    let hi : SFits w32 c.axis-item.result.hi = search rules in
    let e = cut c.args.axes.now c.axis-item.result c.in-len1-up.len_at_least c.axis-item.is in
    let s = step _ _ _ c.args.total (c.args.total / c.size.result) 0 e c.requires.ordered c.requires.counted (omega (arith, c.requires.counted, count-pos c.args.axes.now)) (ap (λ k. c.args.total / k) c.size.ensures.value) in
    turns_first c.args.variables.now c.args.indexes.now _ _ c.args.axes.now _ c.axis-item.result _ _ _ place
    (cut_first c.args.indexes.now _ c.in-len1-up-indexes.len_at_least) e (to_z-of_z w32 c.axis-item.result.lo lo) (to_z-of_z w32 c.axis-item.result.hi hi) s.left
    (c.turns_as.ensures c.if-not-turns_as.false place) (c.turn_as.ensures h place)
