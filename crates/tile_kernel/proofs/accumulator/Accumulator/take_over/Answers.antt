-- An accumulator that took over what another one was told stands for the points of both.
use Rattle.std.proofs.Common.{sym, subst, ◌++◌}
use Rattle.tile_kernel.specs.Told.{IsFirst}
use Rattle.tile_kernel.proofs.Faults.{same_fault}
use Rattle.tile_kernel.proofs.Merges.{stands_merged}
use Rattle.tile_kernel.proofs.accumulator.Accumulator.take_over.Goals as goal

pub returns-clause-stands : goal.returns-clause-stands
returns-clause-stands c = λ more g told h.
    stands_merged c.args.self.now c.args.other.now _ told more c.joined-self.ensures.count c.joined-self.ensures.op c.requires.op
    (λ t m p q. subst (λ f. IsFirst f c.least-first.result.place (t ++ m)) (sym c.joined-self.ensures.fault)
    (c.least-first.ensures t m (same_fault _ _ _ _ t c.first_fault.ensures.fault c.first_fault.ensures.place p) (same_fault _ _ _ _ m c.first_fault-2.ensures.fault c.first_fault-2.ensures.place q)))
    c.joined-self.ensures.kept h g
