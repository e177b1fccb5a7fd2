-- One more value is in the sums of the halves as often as it counts, and both stay below their bounds.
use Rattle.std.proofs.Common.{◌≡◌, ◌+◌, ◌*◌, ◌/◌, ◌%◌, ◌≤◌, ◌∙◌, ap, sym, subst, arith, rules, SFits, w64, pos, ◌+ℤ◌, ◌^◌, Fits, length}
use Rattle.std.proofs.Math.Nat.{mul-le-mul_left}
use Rattle.std.proofs.lemmas.Int.{to_z-of_z}
use Rattle.std.proofs.lemmas.Grind.{common_steps}
use Rattle.wcps_mean.specs.Condensers.{total}
use Rattle.tile_kernel.specs.Selected.{selected}
use Rattle.tile_kernel.proofs.Reductions.{sum_next, half_next, selected_before}
use Rattle.tile_kernel.proofs.reduce.far_sum_over.Goals as goal

pub overflow_mul-low : goal.overflow_mul-low
overflow_mul-low g c =
    let t = g.C.Choice.times c.args.choice.now in
    let v = g.V.Operand.value c.args.values.now in
    let m = selected_before t v c.loop-place.place c.args.len (omega arith) in
    let half : c.raised-bits.result % 4294967296 ≤ 4294967295 = omega arith in
    let p = mul-le-mul_left c.times-times.result half in
    omega (arith, m, p, c.times-times.ensures)

pub overflow_mul-high : goal.overflow_mul-high
overflow_mul-high g c =
    let t = g.C.Choice.times c.args.choice.now in
    let v = g.V.Operand.value c.args.values.now in
    let m = selected_before t v c.loop-place.place c.args.len (omega arith) in
    let few : Fits w64 c.raised-bits.result = search rules in
    let half : c.raised-bits.result / 4294967296 ≤ 4294967295 = omega (arith, few) in
    let p = mul-le-mul_left c.times-times.result half in
    omega (arith, m, p, c.times-times.ensures)

pub overflow_add-low : goal.overflow_add-low
overflow_add-low g c =
    let t = g.C.Choice.times c.args.choice.now in
    let v = g.V.Operand.value c.args.values.now in
    let m = selected_before t v c.loop-place.place c.args.len (omega arith) in
    let half : c.raised-bits.result % 4294967296 ≤ 4294967295 = omega arith in
    let p = mul-le-mul_left c.times-times.result half in
    omega (arith, m, p, c.times-times.ensures, c.loop-place.invariant.low)

pub overflow_add-high : goal.overflow_add-high
overflow_add-high g c =
    let t = g.C.Choice.times c.args.choice.now in
    let v = g.V.Operand.value c.args.values.now in
    let m = selected_before t v c.loop-place.place c.args.len (omega arith) in
    let few : Fits w64 c.raised-bits.result = search rules in
    let half : c.raised-bits.result / 4294967296 ≤ 4294967295 = omega (arith, few) in
    let p = mul-le-mul_left c.times-times.result half in
    omega (arith, m, p, c.times-times.ensures, c.loop-place.invariant.high)

pub loop-place-preserved : goal.loop-place-preserved
loop-place-preserved g c =
    let t = g.C.Choice.times c.args.choice.now in
    let v = g.V.Operand.value c.args.values.now in
    let k = c.loop-place.place in
    let bits = c.raised-bits.result in
    let fits : SFits w64 c.value.result = search rules in
    let few : Fits w64 c.raised-bits.result = search rules in
    let raised : pos bits ≡ v k +ℤ pos (2 ^ 63) = c.raised-bits.ensures ∙ ap (λ x. x +ℤ pos (2 ^ 63)) (to_z-of_z w64 c.value.result fits ∙ c.value.ensures) in
    let times : t k ≡ c.times-times.result = sym c.times-times.ensures in
    record {
      sum = subst (λ n. pos ((c.loop-place.low + n * (bits % 4294967296)) + 4294967296 * (c.loop-place.high + n * (bits / 4294967296))) ≡ total (selected t v (k + 1)) +ℤ pos (length (selected t v (k + 1)) * 2 ^ 63)) times
          (sum_next t v k bits c.loop-place.low c.loop-place.high raised c.loop-place.invariant.sum);
      low = subst (λ n. c.loop-place.low + n * (bits % 4294967296) ≤ length (selected t v (k + 1)) * 4294967295) times (half_next t v k c.loop-place.low (bits % 4294967296) (omega arith) c.loop-place.invariant.low);
      high = subst (λ n. c.loop-place.high + n * (bits / 4294967296) ≤ length (selected t v (k + 1)) * 4294967295) times (half_next t v k c.loop-place.high (bits / 4294967296) (omega (arith, few)) c.loop-place.invariant.high);
    }

pub loop-place-init : goal.loop-place-init
loop-place-init g c = grind (arith, common_steps)

pub overflow_cast-result : goal.overflow_cast-result
overflow_cast-result g c = grind (arith, common_steps)

pub overflow_cast-result-2 : goal.overflow_cast-result-2
overflow_cast-result-2 g c = grind (arith, common_steps)

pub overflow_mul-result : goal.overflow_mul-result
overflow_mul-result g c = grind (arith, common_steps)

pub overflow_add-result : goal.overflow_add-result
overflow_add-result g c = grind (arith, common_steps)

pub overflow_cast-result-3 : goal.overflow_cast-result-3
overflow_cast-result-3 g c = grind (arith, common_steps)

pub overflow_mul-result-2 : goal.overflow_mul-result-2
overflow_mul-result-2 g c = grind (arith, common_steps)

pub overflow_sub-result : goal.overflow_sub-result
overflow_sub-result g c = grind (arith, common_steps)

pub returns-clause-value : goal.returns-clause-value
returns-clause-value g c = grind (arith, common_steps)

pub returns-clause-from_below : goal.returns-clause-from_below
returns-clause-from_below g c = grind (arith, common_steps)

pub returns-clause-from_above : goal.returns-clause-from_above
returns-clause-from_above g c = grind (arith, common_steps)
