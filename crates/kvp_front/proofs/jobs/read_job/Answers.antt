-- A text that does not begin with a plus sign spells the job's number that it is parsed as, or else none.
use Rattle.std.proofs.Common.{◌≢◌, get_or, inl, subst, arith}
use Rattle.std.proofs.lemmas.Bool.Decides.{nat_tests}
use Rattle.kvp_front.proofs.SpellingLemmas.{Job, job_parsed}
use Rattle.kvp_front.proofs.jobs.read_job.Goals as goal

pub returns-in-Ok : goal.returns-in-Ok
returns-in-Ok c =
    let text = c.args.text.now in
    let plain : get_or text 0 0 ≢ 43 = grind (arith, nat_tests, c.if-bytes-eq43.false, c.as_bytes-bytes.ensures.value) in
    subst (Job text) c.in-Ok.is (job_parsed text c.parse.result c.parse.ensures.value.0 plain)

pub returns-in-Err : goal.returns-in-Err
returns-in-Err c =
    let text = c.args.text.now in
    let plain : get_or text 0 0 ≢ 43 = grind (arith, nat_tests, c.if-bytes-eq43.false, c.as_bytes-bytes.ensures.value) in
    inl (subst (Job text) c.in-Err.is (job_parsed text c.parse.result c.parse.ensures.value.0 plain))
