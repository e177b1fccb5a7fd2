-- A typed query becomes a job, and what it reads is held for it.
use Rattle.std.proofs.Common.{◌≡◌, ◌∙◌, map, refl, ap, inl, inr}
use Rattle.arr_core.specs.declared.signature.Signature.{Signature}
use Rattle.coverage_server.proofs.HoldingLemmas.{unheld_next}
use Rattle.coverage_server.proofs.JobLemmas.{may_hold, submit_failed_as, submit_holds, submitted}
use Rattle.coverage_server.proofs.PlacedLemmas.{lays_held}
use Rattle.coverage_server.proofs.jobs.submit_typed.Goals as goal

pub submit-requires-clause-names : goal.submit-requires-clause-names
submit-requires-clause-names g c =
    let v = c.args.cells.now.coverages in
    let old = c.args.desk.now in
    let named = c.in_ok-names.ensures ∙ ap (map (λ (s : Signature). s.name)) c.coverages.ensures in
    λ n given. (unheld_next old v.held n c.coverages-rising.ensures.desk c.requires.holding given, may_hold v.store _ _ named c.requires.held)

pub returns-in-Ok-clause-answered : goal.returns-in-Ok-clause-answered
returns-in-Ok-clause-answered g c =
    let v = c.args.cells.now.coverages in
    let old = c.args.desk.now in
    let named = c.in_ok-names.ensures ∙ ap (map (λ (s : Signature). s.name)) c.coverages.ensures in
    let x = c.in-Ok.ensures.submitted in
    let none = unheld_next old v.held _ c.coverages-rising.ensures.desk c.requires.holding x.given in
    λ text told. submitted v text old _ told _ c.in_ok-plan.ensures c.submit.new.self c.submit.new.store.coverages c.in_ok-names.names.items _ _ named x none c.in-Ok.ensures.held c.write_job.new.text c.write_job.ensures

pub returns-in-Ok-clause-holding : goal.returns-in-Ok-clause-holding
returns-in-Ok-clause-holding g c =
    let v = c.args.cells.now.coverages in
    let old = c.args.desk.now in
    let named = c.in_ok-names.ensures ∙ ap (map (λ (s : Signature). s.name)) c.coverages.ensures in
    let x = c.in-Ok.ensures.submitted in
    let none = unheld_next old v.held _ c.coverages-rising.ensures.desk c.requires.holding x.given in
    submit_holds v c.submit.new.store.coverages old c.submit.new.self _ _ c.in_ok-names.names.items _ _ c.in_ok-plan.ensures named x none c.in-Ok.ensures.held c.requires.held c.requires.holding

pub returns-in-Err-clause-answered : goal.returns-in-Err-clause-answered
returns-in-Err-clause-answered g c =
    let stays : c.submit.new.store.coverages ≡ c.args.cells.now.coverages = elim c.in-Err.ensures.stays [
      | inl e ↦ rw e refl
      | inr e ↦ e
    ] in
    λ text told.
    submit_failed_as c.args.cells.now.coverages c.submit.new.store.coverages text c.args.desk.now c.submit.new.self _ told c.in-Err.error c.submit_refusal.result c.submit_refusal.ensures c.in-Err.ensures.unchanged
    stays c.in-Err.ensures.refused

pub returns-in-Err-clause-refused : goal.returns-in-Err-clause-refused
returns-in-Err-clause-refused g c = elim c.in-Err.ensures.stays [
  | inl e ↦ rw e refl
  | inr e ↦ e
]

pub returns-in-Ok-clause-lays : goal.returns-in-Ok-clause-lays
returns-in-Ok-clause-lays g c =
    let v = c.args.cells.now.coverages in
    let named = c.in_ok-names.ensures ∙ ap (map (λ (s : Signature). s.name)) c.coverages.ensures in
    let x = c.in-Ok.ensures.submitted in
    λ text told. lays_held v c.submit.new.store.coverages text _ c.in_ok-names.names.items _ c.args.desk.now.next
    x.given named told.typed c.in-Ok.ensures.held
