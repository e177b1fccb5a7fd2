-- The header of an open file changes no block's use, so that the disk can be closed later.
use Rattle.coverage_server.proofs.FreeLemmas.{header_ready}
use Rattle.coverage_server.proofs.SpelledLemmas.{header_spelled}
use Rattle.coverage_server.proofs.coverages.Coverages.write_open.Goals as goal

pub invariant_of-self : goal.invariant_of-self
invariant_of-self g c = header_ready c.self.inside.catalogue c.self.inside.cells c.write_header.new.self c.self.invariant c.write_header.ensures.same c.write_header.ensures.frame c.write_header.ensures.snapshots

pub returns-clause-spelled : goal.returns-clause-spelled
returns-clause-spelled g c =
    rw (← c.self.view_is)
    (header_spelled c.self.inside.catalogue c.self.inside.cells c.write_header.new.self c.self.invariant
    c.len-held.ensures.held c.write_header.ensures.same c.write_header.ensures.frame c.write_header.ensures.snapshots)
