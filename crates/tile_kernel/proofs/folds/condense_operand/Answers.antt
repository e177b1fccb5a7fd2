-- What is kept of the values is that of the outcomes as often as they count.
use Rattle.std.proofs.Common.{sym, subst, arith}
use Rattle.wcps_mean.specs.Feeding.{Keeps}
use Rattle.tile_kernel.specs.Selected.{selected}
use Rattle.tile_kernel.proofs.Tellings.{stands_taken}
use Rattle.tile_kernel.proofs.folds.condense_operand.Goals as goal

pub returns-clause-stands : goal.returns-clause-stands
returns-clause-stands g c = λ os h.
    let t = g.C.Choice.times c.args.choice.now in
    let v = g.V.Operand.value c.args.values.now in
    let r = c.condense_values-running.result in
    stands_taken r t v c.args.len os (sym h.0) (λ k lt. h.1 k (omega (arith, lt, h.0)))
    c.condense_values-running.ensures.count c.condense_values-running.ensures.fault
    (subst (λ op. Keeps op r (selected t v c.args.len)) (sym c.condense_values-running.ensures.op) c.condense_values-running.ensures.kept)
