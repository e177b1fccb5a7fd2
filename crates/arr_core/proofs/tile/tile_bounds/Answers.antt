-- The tiles begin at the first coordinate of their place, and end at the last one or where the axis ends.
use Rattle.std.proofs.Common.{rules, ◌≡◌, ◌∙◌, ap, min, ◌+◌, ◌*◌, ◌-◌, w32, SFits, arith}
use Rattle.std.specs.Prelude.{pos, ◌+ℤ◌}
use Rattle.std.proofs.lemmas.Int.{to_z-of_z}
use Rattle.std.proofs.lemmas.Grind.{common_steps}
use Rattle.arr_core.specs.Domains.{gap}
use Rattle.arr_core.proofs.Grids.{part-hi}
use Rattle.arr_core.proofs.tile.tile_bounds.Goals as goal

pub returns-clause-hi : goal.returns-clause-hi
returns-clause-hi c =
    let a = c.args.axis.now in
    let low : SFits w32 a.lo = search rules in
    let high : SFits w32 c.coordinate-2.result = search rules in
    let to : c.tile_steps-from.result.1 ≡ min (gap a.lo a.hi) (c.args.place * c.args.edge + (c.args.edge - 1)) = search rules in
    to_z-of_z w32 c.coordinate-2.result high ∙ c.coordinate-2.ensures ∙ ap (λ z. z +ℤ pos c.tile_steps-from.result.1) (to_z-of_z w32 a.lo low)
    ∙ ap (λ n. a.lo +ℤ pos n) to ∙ part-hi c.args.edge a c.args.place c.requires.ordered

pub returns-clause-lo : goal.returns-clause-lo
returns-clause-lo c = grind (arith, common_steps)

pub returns-clause-small : goal.returns-clause-small
returns-clause-small c = grind (arith, common_steps)

pub returns-clause-few : goal.returns-clause-few
returns-clause-few c = grind (arith, common_steps)
