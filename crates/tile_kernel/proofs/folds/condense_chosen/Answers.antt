-- The condition's values choose the places.
use Rattle.std.proofs.Common.{arith, length, cond}
use Rattle.arr_core.specs.Cells.{truth_of}
use Rattle.tile_kernel.proofs.Tellings.{each_where, at_most, once_each, chosen_at_most}
use Rattle.tile_kernel.proofs.folds.condense_chosen.Goals as goal

pub condense_view-requires-clause-few : goal.condense_view-requires-clause-few
condense_view-requires-clause-few g c =
    let v = g.V.Operand.value c.args.condition in
    let n = length c.args.column.now in
    let m = at_most (λ k. cond (truth_of (v k)) 1 0) (λ k. 1) n (λ k. chosen_at_most (truth_of (v k)) 1) in
    omega (arith, m, once_each n, c.len-few.ensures.few)

pub returns : goal.returns
returns g c = λ cs h.
    each_where c.condense_view.result c.args.op cs c.args.column.now (g.V.Operand.value c.args.condition) h.0 (λ k lt. h.1 k (omega (arith, lt, h.0)))
    c.condense_view.ensures.stands c.condense_view.ensures.op
