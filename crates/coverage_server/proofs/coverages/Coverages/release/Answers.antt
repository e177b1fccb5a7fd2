-- Blocks that are let go are in use less often, and the disk can still be closed.
use Rattle.coverage_server.proofs.FreeLemmas.{releases_ready, releases_for}
use Rattle.coverage_server.proofs.coverages.Coverages.release.Goals as goal

pub invariant_of-self : goal.invariant_of-self
invariant_of-self g c = releases_ready c.self.inside.catalogue c.args.number c.self.inside.cells c.release.new.self c.self.invariant c.release.ensures

pub returns : goal.returns
returns g c = rw (← c.self.view_is) (releases_for c.args.number c.self.inside.cells c.release.new.self c.release.ensures)
