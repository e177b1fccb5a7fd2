-- One more value is counted if it is true.
use Rattle.std.proofs.Common.{◌≡◌, ◌<◌, ◌∙◌, ap, arith, rules, pos, length, get_or, SFits, cond}
use Rattle.std.specs.Int.{w32}
use Rattle.std.proofs.lemmas.Int.{to_z-of_z}
use Rattle.arr_core.specs.Cells.{truth_of}
use Rattle.tile_kernel.proofs.Reductions.{trues_more}
use Rattle.tile_kernel.proofs.narrow_reduce.narrow_trues.Goals as goal

pub loop-place-preserved : goal.loop-place-preserved
loop-place-preserved c =
    let x = get_or c.args.values.now c.loop-place.place (pos 0) in
    let small : SFits w32 x = search rules in
    let within : c.loop-place.place < length c.args.values.now = omega arith in
    let more = trues_more c.args.values.now c.loop-place.place within in
    let one : c.narrow_weight-count.result ≡ cond (truth_of x) 1 0 = c.narrow_weight-count.ensures.value ∙ ap (λ z. cond (truth_of z) 1 0) (to_z-of_z w32 x small) in
    record { value = omega (arith, more, one, c.loop-place.invariant.value); few = omega (arith, c.loop-place.invariant.few, c.narrow_weight-count.ensures.small) }
