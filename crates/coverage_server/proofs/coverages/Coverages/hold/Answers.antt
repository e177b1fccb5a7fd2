-- Blocks that are held too are in use once more, so that as many are free and the disk can still be closed.
use Rattle.coverage_server.proofs.FaultLemmas.{on_ok, on_err}
use Rattle.coverage_server.proofs.FreeLemmas.{either_ready, holds_for, holds_none}
use Rattle.coverage_server.proofs.coverages.Coverages.hold.Goals as goal

pub invariant_of-self : goal.invariant_of-self
invariant_of-self g c =
    either_ready c.hold.result c.self.inside.catalogue c.args.number c.args.names.now c.self.inside.cells c.hold.new.self c.self.invariant c.hold.ensures.held c.hold.ensures.refused

pub returns-clause-held : goal.returns-clause-held
returns-clause-held g c =
    rw (← c.self.view_is) (on_ok c.hold.result _ _ (holds_for c.args.number c.args.names.now c.self.inside.cells c.hold.new.self) c.hold.ensures.held)

pub returns-clause-refused : goal.returns-clause-refused
returns-clause-refused g c = rw (← c.self.view_is) (on_err c.hold.result _ _ (holds_none c.self.inside.cells c.hold.new.self) c.hold.ensures.refused)
