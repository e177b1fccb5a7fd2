-- One more value is counted as often as it counts, if it is true.
use Rattle.std.proofs.Common.{◌≡◌, ◌*◌, ◌∙◌, ap, arith, rules, SFits, w64, cond}
use Rattle.std.proofs.Math.Nat.{mul-le-mul_left}
use Rattle.std.proofs.lemmas.Int.{to_z-of_z}
use Rattle.arr_core.specs.Cells.{truth_of}
use Rattle.tile_kernel.specs.Selected.{taken_in}
use Rattle.tile_kernel.proofs.Reductions.{trues_next, length_next, selected_before, length-selected}
use Rattle.tile_kernel.proofs.reduce.trues_over.Goals as goal

pub overflow_mul-count : goal.overflow_mul-count
overflow_mul-count g c =
    let t = g.C.Choice.times c.args.choice.now in
    let v = g.V.Operand.value c.args.values.now in
    let m = selected_before t v c.loop-place.place c.args.len (omega arith) in
    let p = mul-le-mul_left c.times-times.result c.weight-one.ensures.small in
    omega (arith, m, p, c.times-times.ensures)

pub overflow_add-count : goal.overflow_add-count
overflow_add-count g c =
    let t = g.C.Choice.times c.args.choice.now in
    let v = g.V.Operand.value c.args.values.now in
    let m = selected_before t v c.loop-place.place c.args.len (omega arith) in
    let p = mul-le-mul_left c.times-times.result c.weight-one.ensures.small in
    omega (arith, m, p, c.times-times.ensures, c.loop-place.invariant.few)

pub loop-place-preserved : goal.loop-place-preserved
loop-place-preserved g c =
    let t = g.C.Choice.times c.args.choice.now in
    let v = g.V.Operand.value c.args.values.now in
    let k = c.loop-place.place in
    let fits : SFits w64 c.value.result = search rules in
    let next = trues_next t v k in
    let more = length_next t v k in
    let p = mul-le-mul_left c.times-times.result c.weight-one.ensures.small in
    let product : c.times-times.result * c.weight-one.result ≡ t k * cond (truth_of (v k)) 1 0 =
    ap (λ n. n * c.weight-one.result) c.times-times.ensures
    ∙ ap (λ n. t k * n) (c.weight-one.ensures.value ∙ ap (λ x. cond (truth_of x) 1 0) (to_z-of_z w64 c.value.result fits ∙ c.value.ensures)) in
    record { value = omega (arith, c.loop-place.invariant.value, next, product); few = omega (arith, p, more, c.times-times.ensures, c.loop-place.invariant.few) }

pub returns-clause-few : goal.returns-clause-few
returns-clause-few g c =
    let t = g.C.Choice.times c.args.choice.now in
    let v = g.V.Operand.value c.args.values.now in
    let end : c.loop-place.place ≡ c.args.len = omega arith in
    let all = length-selected t v c.loop-place.place in
    let same : taken_in t c.loop-place.place ≡ taken_in t c.args.len = ap (taken_in t) end in
    omega (arith, all, same, c.loop-place.invariant.few, c.requires.few)
