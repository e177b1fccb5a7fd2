-- A finished job tells the text or the fault that is its answer, and a fetch is refused for the desk's reason.
use Rattle.std.proofs.Common.{ap, inl, inr, subst}
use Rattle.arr_core.specs.Refusals.{number_of}
use Rattle.job_desk.specs.Desks.{IsFetched}
use Rattle.coverage_server.proofs.HoldingLemmas.{holding_done}
use Rattle.coverage_server.proofs.JobLemmas.{fetched_text, fetched_fault, fetch_refused_as}
use Rattle.coverage_server.proofs.jobs.fetch_job.Goals as goal

pub returns-in-Text-clause-answered : goal.returns-in-Text-clause-answered
returns-in-Text-clause-answered c =
    λ v. fetched_text v c.args.desk.now c.fetch.new.self c.args.number c.in-Text.text (subst (λ a. IsFetched c.args.number a c.args.desk.now c.fetch.new.self) c.in-Text.is c.in-Ok.ensures.fetched)

pub returns-in-Refused-clause-answered : goal.returns-in-Refused-clause-answered
returns-in-Refused-clause-answered c =
    λ v.
    rw c.refusal.ensures
    (fetched_fault v c.args.desk.now c.fetch.new.self c.args.number c.in-Refused.fault (subst (λ a. IsFetched c.args.number a c.args.desk.now c.fetch.new.self) c.in-Refused.is c.in-Ok.ensures.fetched))

pub returns-in-Err-clause-answered : goal.returns-in-Err-clause-answered
returns-in-Err-clause-answered c =
    λ v. fetch_refused_as v c.args.desk.now c.fetch.new.self c.args.number c.in-Err.error c.fetch_refusal.result c.fetch_refusal.ensures c.in-Err.ensures.unchanged c.in-Err.ensures.refused

pub returns-in-Text-clause-holding : goal.returns-in-Text-clause-holding
returns-in-Text-clause-holding c = λ held was. let x = c.in-Ok.ensures.fetched in rw x.desk (holding_done c.args.number x.job c.args.desk.now held was x.held x.done)

pub returns-in-Refused-clause-holding : goal.returns-in-Refused-clause-holding
returns-in-Refused-clause-holding c = λ held was. let x = c.in-Ok.ensures.fetched in rw x.desk (holding_done c.args.number x.job c.args.desk.now held was x.held x.done)

pub returns-in-Refused-clause-jobs : goal.returns-in-Refused-clause-jobs
returns-in-Refused-clause-jobs c =
    inr (c.in-Refused.fault, ap number_of c.refusal.ensures, subst (λ a. IsFetched c.args.number a c.args.desk.now c.fetch.new.self) c.in-Refused.is c.in-Ok.ensures.fetched)

pub returns-in-Err-clause-jobs : goal.returns-in-Err-clause-jobs
returns-in-Err-clause-jobs c = inl c.in-Err.ensures.unchanged
