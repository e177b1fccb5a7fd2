-- No job is there, and nothing is held.
use Rattle.coverage_server.proofs.LettingLemmas.{holding_none}
use Rattle.coverage_server.proofs.server.Server.let_go.Goals as goal

pub invariant_of-self : goal.invariant_of-self
invariant_of-self g c = rw (c.let_go.ensures, c.let_go-2.ensures) (holding_none _ _ c.self.invariant)
