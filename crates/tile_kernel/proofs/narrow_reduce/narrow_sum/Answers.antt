-- One more value is added, and the sum does not wrap.
use Rattle.std.proofs.Common.{◌≡◌, ◌∙◌, ◌+◌, ◌*◌, ◌^◌, ◌<◌, ap, sym, subst, arith, rules, pos, neg_ℤ, ◌+ℤ◌, ◌≤ℤ◌, length, get_or, SFits, w64, to_z, of_z}
use Rattle.std.specs.Int.{w32}
use Rattle.std.proofs.lemmas.Int.{to_z-of_z}
use Rattle.tile_kernel.proofs.Results.{widened}
use Rattle.tile_kernel.proofs.Reductions.{total_more}
use Rattle.tile_kernel.proofs.Narrow.{sum_fits, sum_below, sum_above}
use Rattle.tile_kernel.proofs.narrow_reduce.narrow_sum.Goals as goal

pub loop-place-preserved : goal.loop-place-preserved
loop-place-preserved c =
    let zs = c.args.values.now in
    let k = c.loop-place.place in
    let x = get_or zs k (pos 0) in
    let t = to_z w64 c.loop-place.sum-bits in
    let inv = c.loop-place.invariant in
    let small : SFits w32 x = search rules in
    let within : c.loop-place.place < length c.args.values.now = omega arith in
    let step : to_z w64 (of_z w64 (t +ℤ to_z w64 (of_z w64 (to_z w32 (of_z w32 x))))) ≡ t +ℤ x =
    ap (λ z. to_z w64 (of_z w64 (t +ℤ z))) (widened x small)
    ∙ to_z-of_z w64 (t +ℤ x) (sum_fits t x k (omega arith) small inv.from_below inv.from_above) in
    record {
      value = step ∙ ap (λ s. s +ℤ x) inv.value ∙ sym (total_more zs k within);
      from_below = subst (λ s. neg_ℤ (pos ((k + 1) * 2 ^ 31)) ≤ℤ s) (sym step) (sum_below t x k small inv.from_below);
      from_above = subst (λ s. (s +ℤ pos (k + 1)) ≤ℤ pos ((k + 1) * 2 ^ 31)) (sym step) (sum_above t x k small inv.from_above);
    }
