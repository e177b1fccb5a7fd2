-- A job with units left is not ready; one that gives its answer has none, and the desk goes on without it.
use Rattle.std.proofs.Common.{refl, arith}
use Rattle.std.proofs.lemmas.Result.{err_from_is_err_and}
use Rattle.job_desk.specs.Places.{IsPlace}
use Rattle.job_desk.proofs.Desks.{held_at, desk_remove}
use Rattle.job_desk.proofs.desk.JobDesk.fetch.Goals as goal

pub returns-then-held-gt0-clause-refused : goal.returns-then-held-gt0-clause-refused
returns-then-held-gt0-clause-refused c =
    let at : IsPlace c.args.job c.self.inside.jobs.items c.in-Some.place = rw (← c.deref.ensures.value) c.in-Some.ensures in
    rw (← c.self.view_is) (c.index-held.result.now, held_at c.args.job c.self.inside.jobs.items c.in-Some.place c.index-held.result.now at c.index-held.ensures, c.if-held-gt0.true)

pub returns-in_err-answer-clause-refused : goal.returns-in_err-answer-clause-refused
returns-in_err-answer-clause-refused c =
    let at : IsPlace c.args.job c.self.inside.jobs.items c.in-Some.place = rw (← c.deref.ensures.value) c.in-Some.ensures in
    let p = err_from_is_err_and c.from_residual.result c.from_residual.ensures.1 in
    rw (p.1, p.2, ← c.self.view_is) (c.index-held.result.now, held_at c.args.job c.self.inside.jobs.items c.in-Some.place c.index-held.result.now at c.index-held.ensures, omega arith)

pub returns-clause-fetched : goal.returns-clause-fetched
returns-clause-fetched c =
    let at : IsPlace c.args.job c.self.inside.jobs.items c.in-Some.place = rw (← c.deref.ensures.value) c.in-Some.ensures in
    rw (← c.self.view_is) (record {
      job = c.index-held.result.now;
      held = held_at c.args.job c.self.inside.jobs.items c.in-Some.place c.index-held.result.now at c.index-held.ensures;
      done = omega arith;
      answer = c.in_ok-answer.ensures;
      desk = rw (c.take_out.ensures, at.without) refl;
    })

pub invariant_of-self : goal.invariant_of-self
invariant_of-self c =
    let at : IsPlace c.args.job c.self.inside.jobs.items c.in-Some.place = rw (← c.deref.ensures.value) c.in-Some.ensures in
    rw c.take_out.ensures (desk_remove c.self.inside.jobs.items c.self.inside.next c.in-Some.place at.within c.self.invariant)
