-- The job was held, and the desk without it is still one whose numbers rise.
use Rattle.job_desk.specs.Places.{IsPlace}
use Rattle.job_desk.proofs.Desks.{desk_remove, is_held}
use Rattle.job_desk.proofs.desk.JobDesk.cancel.Goals as goal

pub invariant_of-self : goal.invariant_of-self
invariant_of-self g c =
    let at : IsPlace c.args.job c.self.inside.jobs.items c.in-Some.place = rw (← c.deref.ensures.value) c.in-Some.ensures in
    rw c.take_out.ensures (desk_remove c.self.inside.jobs.items c.self.inside.next c.in-Some.place at.within c.self.invariant)

pub returns-clause-held : goal.returns-clause-held
returns-clause-held g c =
    let at : IsPlace c.args.job c.self.inside.jobs.items c.in-Some.place = rw (← c.deref.ensures.value) c.in-Some.ensures in
    rw (← c.self.view_is) (is_held c.args.job c.self.inside.jobs.items c.in-Some.place at)
