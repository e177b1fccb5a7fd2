-- The blocks of the store are whole.
use Rattle.coverage_server.proofs.coverages.Coverages.len.Goals as goal

pub returns-clause-in_use : goal.returns-clause-in_use
returns-clause-in_use g c = rw (← c.self.view_is) c.len-listed.ensures.held.whole
