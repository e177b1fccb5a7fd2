-- Where no mark is high, one more raised value is in the sum as often as it counts, and the sum does not wrap.
use Rattle.std.proofs.Common.{◌≡◌, ◌+◌, ◌*◌, ◌%◌, ◌^◌, ◌<◌, ◌≤◌, ◌∙◌, ap, sym, subst, arith, rules, SFits, w64, pos, ◌+ℤ◌, length}
use Rattle.std.proofs.lemmas.Int.{to_z-of_z}
use Rattle.std.proofs.lemmas.Nat.{le_or_l, le_or_r}
use Rattle.std.proofs.Math.Nat.{mul-le-mul_left, mod-eq_of_lt}
use Rattle.tile_kernel.specs.Selected.{selected}
use Rattle.tile_kernel.proofs.Reductions.{lifted_next, lifted_most, selected_before}
use Rattle.tile_kernel.proofs.reduce.near_sum_over.Goals as goal

pub loop-place-preserved : goal.loop-place-preserved
loop-place-preserved g c = λ low.
    let t = g.C.Choice.times c.args.choice.now in
    let v = g.V.Operand.value c.args.values.now in
    let k = c.loop-place.place in
    let bits = c.lifted-bits.result in
    let l = le_or_l c.loop-place.marks bits in
    let r = le_or_r c.loop-place.marks bits in
    let was = c.loop-place.invariant (omega (arith, l, low)) in
    let small : bits < 2 ^ 41 = omega (arith, r, low) in
    let fits : SFits w64 c.value.result = search rules in
    let less : bits ≤ 2 ^ 41 = omega (arith, small) in
    let raised : pos bits ≡ v k +ℤ pos (2 ^ 40) = c.lifted-bits.ensures small ∙ ap (λ x. x +ℤ pos (2 ^ 40)) (to_z-of_z w64 c.value.result fits ∙ c.value.ensures) in
    let times : t k ≡ c.times.result = sym c.times.ensures in
    let many = selected_before t v k c.args.len (omega arith) in
    let most = mul-le-mul_left c.times.result less in
    let product : c.times.result * bits % 18446744073709551616 ≡ c.times.result * bits = mod-eq_of_lt (omega (arith, most, many, times, c.requires.few)) in
    let sum : (c.loop-place.sum + c.times.result * bits % 18446744073709551616) % 18446744073709551616 ≡ c.loop-place.sum + t k * bits =
    ap (λ n. (c.loop-place.sum + n) % 18446744073709551616) product
    ∙ mod-eq_of_lt (omega (arith, most, many, times, was.1, c.requires.few)) ∙ ap (λ n. c.loop-place.sum + n * bits) (sym times) in (
      ap pos sum ∙ lifted_next t v k bits c.loop-place.sum raised was.0,
      subst (λ n. n ≤ length (selected t v (k + 1)) * 2 ^ 41) (sym sum) (lifted_most t v k c.loop-place.sum bits less was.1),
    )
