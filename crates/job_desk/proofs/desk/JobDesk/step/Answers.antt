-- Only the job with the number is changed, lowered or held up, and the numbers on the desk still rise.
use Rattle.std.proofs.Common.{rules}
use Rattle.std.proofs.lemmas.Result.{err_from_is_err_and}
use Rattle.job_desk.specs.Places.{IsPlace}
use Rattle.job_desk.proofs.Desks.{changed, desk_set}
use Rattle.job_desk.proofs.desk.JobDesk.step.Goals as goal

pub returns-in_err-left-clause-refused : goal.returns-in_err-left-clause-refused
returns-in_err-left-clause-refused g c =
    let at : IsPlace c.args.job c.self.inside.jobs.items c.in-Some.place = rw (← c.deref.ensures.value) c.in-Some.ensures in
    let p = err_from_is_err_and c.from_residual.result c.from_residual.ensures.1 in
    rw (p.1, p.2, ← c.self.view_is) (changed _ c.args.job c.self.inside.jobs.items c.self.inside.next c.in-Some.place c.index_mut.result.now c.step_job.new.job at c.index_mut.ensures.value c.in_err-left.ensures.held_up)

pub returns-clause-stepped : goal.returns-clause-stepped
returns-clause-stepped g c =
    let at : IsPlace c.args.job c.self.inside.jobs.items c.in-Some.place = rw (← c.deref.ensures.value) c.in-Some.ensures in
    rw (← c.self.view_is) (changed _ c.args.job c.self.inside.jobs.items c.self.inside.next c.in-Some.place c.index_mut.result.now c.step_job.new.job at c.index_mut.ensures.value c.in_ok-left.ensures.lowered)

pub invariant_of-self-2 : goal.invariant_of-self-2
invariant_of-self-2 g c =
    let at : IsPlace c.args.job c.self.inside.jobs.items c.in-Some.place = rw (← c.deref.ensures.value) c.in-Some.ensures in
    desk_set c.self.inside.jobs.items c.self.inside.next c.in-Some.place c.index_mut.result.now c.step_job.new.job at.within c.index_mut.ensures.value c.in_ok-left.ensures.lowered.same.number c.step_job.ensures.job c.self.invariant

pub invariant_of-self : goal.invariant_of-self
invariant_of-self g c =
    let at : IsPlace c.args.job c.self.inside.jobs.items c.in-Some.place = rw (← c.deref.ensures.value) c.in-Some.ensures in
    desk_set c.self.inside.jobs.items c.self.inside.next c.in-Some.place c.index_mut.result.now c.step_job.new.job at.within c.index_mut.ensures.value c.in_err-left.ensures.held_up.same.number c.step_job.ensures.job c.self.invariant

pub returns-clause-source : goal.returns-clause-source
returns-clause-source g c =
    let at : IsPlace c.args.job c.self.inside.jobs.items c.in-Some.place = rw (← c.deref.ensures.value) c.in-Some.ensures in
    record {
      read = c.step_job.new.source;
      reads = search rules;
      reports = search rules;
      ends = search rules;
      fetched = rw (← c.self.view_is) (changed _ c.args.job c.self.inside.jobs.items c.self.inside.next c.in-Some.place c.index_mut.result.now c.step_job.new.job at c.index_mut.ensures.value c.in_ok-left.ensures.fetched);
    }
