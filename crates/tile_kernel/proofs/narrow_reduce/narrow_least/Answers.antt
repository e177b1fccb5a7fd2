-- The smaller of the best and one more value is the least with it.
use Rattle.std.proofs.Common.{◌<◌, ◌∙◌, ap, sym, arith, rules, pos, length, get_or, SFits, to_z, Some}
use Rattle.std.specs.Int.{w32}
use Rattle.std.proofs.lemmas.Int.{to_z-of_z}
use Rattle.wcps_mean.specs.Condensers.{smaller}
use Rattle.tile_kernel.proofs.Reductions.{least_more}
use Rattle.tile_kernel.proofs.narrow_reduce.narrow_least.Goals as goal

pub loop-place-preserved : goal.loop-place-preserved
loop-place-preserved c =
    let x = get_or c.args.values.now c.loop-place.place (pos 0) in
    let t = to_z w32 c.loop-place.best-bits in
    let small : SFits w32 x = search rules in
    let fits : SFits w32 c.narrow_smaller-best.result = search rules in
    let within : c.loop-place.place < length c.args.values.now = omega arith in
    least_more c.args.values.now c.loop-place.place t within c.loop-place.invariant
    ∙ ap Some (ap (smaller t) (sym (to_z-of_z w32 x small)) ∙ sym c.narrow_smaller-best.ensures ∙ sym (to_z-of_z w32 c.narrow_smaller-best.result fits))
