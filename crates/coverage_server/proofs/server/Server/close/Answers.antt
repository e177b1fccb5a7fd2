-- What is left of a server that is not closed is what its parts leave.
use Rattle.std.proofs.Common.{Err, ap, ◌∙◌}
use Rattle.coverage_server.proofs.HoldingLemmas.{holding_same}
use Rattle.coverage_server.proofs.ClosedLemmas.{closed_to}
use Rattle.coverage_server.proofs.FaultLemmas.{never_fewer}
use Rattle.coverage_server.proofs.server.Server.close.Goals as goal

pub returns-in-Err-clause-refused : goal.returns-in-Err-clause-refused
returns-in-Err-clause-refused g c =
    rw (← c.self.view_is)
    (record {
      unchanged = c.write_closed.ensures.unchanged;
      sound = c.write_closed.ensures.sound;
      spelled = c.write_closed.ensures.spelled;
      disk_fault = λ e. c.write_closed.ensures.told.told (c.in-Err.is ∙ ap Err e);
      no_memory = λ e. (c.write_closed.ensures.header (c.in-Err.is ∙ ap Err e), c.write_closed.ensures.told.quiet (λ f. absurd cc));
      grows = c.write_closed.ensures.grows;
      honest = c.write_closed.ensures.honest;
      no_fewer = never_fewer _ _ _ c.write_closed.ensures.told;
      overreads = c.write_closed.ensures.overreads;
    })

pub invariant_of-result : goal.invariant_of-result
invariant_of-result g c = holding_same c.self.inside.desk c.self.inside.cells.coverages.held c.write_closed.new.coverages.held c.write_closed.ensures.unchanged.held.told c.self.invariant

pub returns-in-Ok-clause-closed : goal.returns-in-Ok-clause-closed
returns-in-Ok-clause-closed g c =
    rw (← c.self.view_is)
    (closed_to c.self.inside.cells.coverages c.write_closed.new.coverages _ c.in-Ok.ensures.written
    c.write_closed.ensures.unchanged c.write_closed.ensures.sound c.write_closed.ensures.spelled
    c.write_closed.ensures.grows c.write_closed.ensures.honest (c.write_closed.ensures.told.quiet (λ e. absurd cc)) c.write_closed.ensures.overreads
    c.into_disk.ensures.closed c.into_disk.ensures.content c.into_disk.ensures.honest c.into_disk.ensures.failures
    c.into_disk.ensures.overreads)
