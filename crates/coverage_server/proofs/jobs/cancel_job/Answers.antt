-- A job that is there is dropped with what is held for it, and a number of no job is refused.
use Rattle.coverage_server.proofs.HoldingLemmas.{holding_left}
use Rattle.coverage_server.proofs.JobLemmas.{cancelled, cancel_absent}
use Rattle.coverage_server.proofs.PlacedLemmas.{lets_go}
use Rattle.coverage_server.proofs.jobs.cancel_job.Goals as goal

pub returns-in-Ok-clause-answered : goal.returns-in-Ok-clause-answered
returns-in-Ok-clause-answered g c =
    cancelled c.args.cells.now.coverages c.cancel.new.store.coverages c.args.desk.now c.cancel.new.self c.args.number c.coverages-rising.ensures.desk c.in-Ok.ensures.held c.in-Ok.ensures.taken_out
    c.in-Ok.ensures.released c.in_ok-reply.reply c.in_ok-reply.ensures.ok

pub returns-in-Ok-clause-holding : goal.returns-in-Ok-clause-holding
returns-in-Ok-clause-holding g c =
    rw (c.in-Ok.ensures.taken_out, c.in-Ok.ensures.released.held)
    (holding_left c.args.number c.args.desk.now c.args.cells.now.coverages.held c.coverages-rising.ensures.desk c.requires.holding)

pub returns-in-Err-clause-answered : goal.returns-in-Err-clause-answered
returns-in-Err-clause-answered g c =
    rw (c.in-Err.ensures.unchanged, c.in-Err.ensures.kept) (cancel_absent c.args.cells.now.coverages c.args.desk.now c.args.number c.in-Err.ensures.absent)

pub returns-in-Ok-clause-lays : goal.returns-in-Ok-clause-lays
returns-in-Ok-clause-lays g c = lets_go c.args.number c.args.cells.now.coverages c.cancel.new.store.coverages
    c.in-Ok.ensures.released
