-- The new job stands last under the next number, so the numbers on the desk still rise.
use Rattle.std.proofs.Common.{◌≡◌, ◌∙◌, ap, sym, subst, Some, ◌<◌, ◌≤◌, length, refl, arith, inl, inr}
use Rattle.std.proofs.lemmas.Result.{err_from_is_err_and}
use Rattle.tile_exec.specs.Standing.{left_of}
use Rattle.job_desk.specs.Desks.{DeskView}
use Rattle.job_desk.proofs.Desks.{desk_push}
use Rattle.job_desk.proofs.desk.JobDesk.take_in.Goals as goal

pub invariant_of-self-2 : goal.invariant_of-self-2
invariant_of-self-2 g c =
    let next : c.self.inside.next ≡ Some c.args.number = ap (λ (d : DeskView). d.next) c.self.view_is ∙ c.requires.next in
    let room : length c.self.inside.jobs.items < 64 = subst (λ (d : DeskView). length d.jobs < 64) (sym c.self.view_is) c.requires.room in
    let ahead : left_of c.args.exec ≤ c.left-left.result = omega arith in
    rw (c.push_job.ensures.pushed, c.make_room.ensures.jobs) (desk_push c.self.inside.jobs.items c.self.inside.next c.number_after-self-inside.result c.args.number _ next c.number_after-self-inside.ensures refl room (record { ahead = ahead }) c.self.invariant)

pub returns-clause-submitted : goal.returns-clause-submitted
returns-clause-submitted g c = λ tree begun.
    let next : c.self.inside.next ≡ Some c.args.number = ap (λ (d : DeskView). d.next) c.self.view_is ∙ c.requires.next in
    let room : length c.self.inside.jobs.items < 64 = subst (λ (d : DeskView). length d.jobs < 64) (sym c.self.view_is) c.requires.room in
    rw (← c.self.view_is) (record {
      job = record { number = c.args.number; names = c.new.result; left = c.left-left.result; exec = c.args.exec };
      room = room;
      given = next;
      number = refl;
      names = c.new.ensures;
      left = (refl, omega arith);
      begun = begun;
      desk = rw (c.push_job.ensures.pushed, c.make_room.ensures.jobs, c.number_after-self-inside.ensures) refl;
    })

pub returns-in_err-make_room-clause-refused : goal.returns-in_err-make_room-clause-refused
returns-in_err-make_room-clause-refused g c =
    let p = err_from_is_err_and c.from_residual.result c.from_residual.ensures.1 in
    let next : c.self.inside.next ≡ Some c.args.number = ap (λ (d : DeskView). d.next) c.self.view_is ∙ c.requires.next in
    let room : length c.self.inside.jobs.items < 64 = subst (λ (d : DeskView). length d.jobs < 64) (sym c.self.view_is) c.requires.room in
    rw (← c.self.view_is, p.1, p.2) (λ full. elim full [ inl many ↦ absurd (omega (arith, many, room)) | inr none ↦ absurd cc ])

pub returns-in_err-make_room-clause-unchanged : goal.returns-in_err-make_room-clause-unchanged
returns-in_err-make_room-clause-unchanged g c =
    let p = err_from_is_err_and c.from_residual.result c.from_residual.ensures.1 in
    rw (← c.self.view_is, p.1, c.make_room.ensures.jobs) refl
