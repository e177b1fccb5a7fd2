-- The condition's values choose the runs.
use Rattle.std.proofs.Common.{arith, length, cond, get_or}
use Rattle.arr_core.specs.Cells.{truth_of}
use Rattle.tile_kernel.proofs.Tellings.{runs_where, at_most, counted_all, chosen_at_most}
use Rattle.tile_kernel.proofs.folds.condense_counted.Goals as goal

pub condense_view-requires-clause-few : goal.condense_view-requires-clause-few
condense_view-requires-clause-few g c =
    let v = g.V.Operand.value c.args.condition in
    let ns = c.args.counts.now in
    let n = length c.args.column.now in
    let m = at_most (λ k. cond (truth_of (v k)) (get_or ns k 0) 0) (λ k. get_or ns k 0) n (λ k. chosen_at_most (truth_of (v k)) (get_or ns k 0)) in
    omega (arith, m, counted_all ns n c.requires.column, c.requires.few)

pub returns : goal.returns
returns g c = λ cs h.
    runs_where c.condense_view.result c.args.op cs c.args.column.now c.args.counts.now (g.V.Operand.value c.args.condition) h.0 c.requires.column (λ k lt. h.1 k (omega (arith, lt, h.0)))
    c.condense_view.ensures.stands c.condense_view.ensures.op
