-- One more place counts as often as it does, and no more than in the end.
use Rattle.std.proofs.Common.{◌≡◌, arith, ap}
use Rattle.tile_kernel.specs.Selected.{taken_in}
use Rattle.tile_kernel.proofs.Reductions.{length_next, selected_before, length-selected}
use Rattle.tile_kernel.proofs.reduce.places_over.Goals as goal

pub overflow_add-count : goal.overflow_add-count
overflow_add-count g c =
    let t = g.C.Choice.times c.args.choice.now in
    let v = g.V.Operand.value c.args.values.now in
    let m = selected_before t v c.loop-place.place c.args.len (omega arith) in
    omega (arith, m, c.loop-place.invariant, c.times-count.ensures)

pub loop-place-preserved : goal.loop-place-preserved
loop-place-preserved g c =
    let t = g.C.Choice.times c.args.choice.now in
    let v = g.V.Operand.value c.args.values.now in
    let n = length_next t v c.loop-place.place in
    omega (arith, n, c.loop-place.invariant, c.times-count.ensures)

pub returns-clause-few : goal.returns-clause-few
returns-clause-few g c =
    let t = g.C.Choice.times c.args.choice.now in
    let v = g.V.Operand.value c.args.values.now in
    let end : c.loop-place.place ≡ c.args.len = omega arith in
    let all = length-selected t v c.loop-place.place in
    let same : taken_in t c.loop-place.place ≡ taken_in t c.args.len = ap (taken_in t) end in
    omega (arith, all, same, c.loop-place.invariant, c.requires.few)
