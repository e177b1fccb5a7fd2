-- A tile that is not read is one of the coverages that the query lists.
use Rattle.std.proofs.Common.{ℕ, ◌+◌, ◌≤◌, ◌∙◌, Err, ap, inl, inr, refl, sym, subst}
use Rattle.std.proofs.lemmas.Result.{err_from_is_err_and}
use Rattle.arr_core.specs.Stores.{Store}
use Rattle.tile_exec.specs.Answering.{IsAnswer}
use Rattle.plan_ir.specs.Planned.{planned}
use Rattle.tile_exec.specs.Standing.{StandsFor, plan_of as plan_in}
use Rattle.wcps_types.specs.TypedQueries.{query_view as typed_view}
use Rattle.coverage_server.specs.Asking.{cells_of}
use Rattle.coverage_server.specs.Fetching.{most_of_plan}
use Rattle.coverage_server.specs.Tiles.{cells_at, store_for}
use Rattle.coverage_server.specs.Views.{ServerView}
use Rattle.coverage_server.proofs.FetchingLemmas.{cells_fail, plan_bounded}
use Rattle.coverage_server.proofs.StepLemmas.{asked_cells, asked_honest}
use Rattle.coverage_server.proofs.TileLemmas.{reads_store}
use Rattle.coverage_server.proofs.ValueLemmas.{reading_failed, text_given, fault_given}
use Rattle.coverage_server.specs.Answered.{TellsFailures}
use Rattle.coverage_server.specs.Stages.{cell_refusal}
use Rattle.coverage_server.proofs.ToldLemmas.{report_told, told_done, told_none}
use Rattle.coverage_server.proofs.query.values_by.Goals as goal

pub returns-in_err-run_down-clause-faults : goal.returns-in_err-run_down-clause-faults
returns-in_err-run_down-clause-faults g c =
    let p = err_from_is_err_and c.from_residual-in_err-run_down.result c.from_residual-in_err-run_down.ensures.1 in
    let s = c.ask.new.self in
    rw (p.1, p.2)
    (reading_failed c.args.cells.now.coverages s.coverages c.run_down.new.source.coverages s.job c.coverages.result.now c.args.typed.now.coverages.items s.places.items c.requires.unheld
    c.in_ok-ask.ensures.coverages c.in_ok-ask.ensures.job (c.coverages.ensures ∙ c.requires.plan.coverages) c.in_ok-ask.ensures.read c.in_err-run_down.field-0.0 c.in_err-run_down.ensures.reports)

pub returns-in_err-ask-clause-fetched : goal.returns-in_err-ask-clause-fetched
returns-in_err-ask-clause-fetched g c =
    let p = err_from_is_err_and c.from_residual.result c.from_residual.ensures.1 in
    rw (p.1, p.2) (inl (inl refl))

pub returns-in_err-run_down-clause-fetched : goal.returns-in_err-run_down-clause-fetched
returns-in_err-run_down-clause-fetched g c =
    let p = err_from_is_err_and c.from_residual-in_err-run_down.result c.from_residual-in_err-run_down.ensures.1 in
    rw (p.1, p.2) (inl (cells_fail c.in_err-run_down.field-0.0))

pub returns-in-Text-clause-fetched : goal.returns-in-Text-clause-fetched
returns-in-Text-clause-fetched g c =
    let after = c.run_down.new.source.coverages.fetched in
    subst (λ (k : ℕ). after ≤ k + most_of_plan (plan_in c.args.exec.now))
    (ap (λ (v : ServerView). v.fetched) c.in_ok-ask.ensures.coverages)
    (plan_bounded c.args.exec.now c.run_down.new.exec _ _ c.requires.begun.boxes c.in_ok-run_down.ensures.fetched)

pub returns-in-Refused-clause-fetched : goal.returns-in-Refused-clause-fetched
returns-in-Refused-clause-fetched g c =
    let after = c.run_down.new.source.coverages.fetched in
    inr (subst (λ (k : ℕ). after ≤ k + most_of_plan (plan_in c.args.exec.now))
    (ap (λ (v : ServerView). v.fetched) c.in_ok-ask.ensures.coverages)
    (plan_bounded c.args.exec.now c.run_down.new.exec _ _ c.requires.begun.boxes c.in_ok-run_down.ensures.fetched))

pub returns-in-Text-clause-values : goal.returns-in-Text-clause-values
returns-in-Text-clause-values g c = λ sure.
    let v = c.args.cells.now.coverages in
    let s = c.ask.new.self in
    let asked = c.coverages.result.now in
    let is = c.in_ok-ask.ensures in
    let run = c.in_ok-run_down.ensures.run in
    let exec = c.run_down.new.exec in
    let begun = c.requires.begun.stands (cells_at (store_for s.job s.coverages) s.places.items) in
    let stands = run.stands (asked_honest v s.coverages 0 s.job asked s.places.items is.coverages is.job is.read sure) begun in
    let cells = asked_cells v s.coverages 0 s.job asked s.places.items is.coverages is.job is.read ∙ ap (λ (store : Store). cells_of store asked) (reads_store v c.requires.unheld) in
    let answer = c.in_ok-text.ensures (cells_of v.store asked) (subst (λ f. StandsFor f exec) cells stands) in
    text_given v.store (typed_view c.args.typed.now) (plan_in c.args.exec.now) (plan_in exec) c.requires.plan run.plan asked c.coverages.ensures c.in-Text.text
    (subst (IsAnswer (planned (cells_of v.store asked) (plan_in exec))) c.in-Text.is answer)

pub returns-in-Refused-clause-values : goal.returns-in-Refused-clause-values
returns-in-Refused-clause-values g c = λ sure.
    let v = c.args.cells.now.coverages in
    let s = c.ask.new.self in
    let asked = c.coverages.result.now in
    let is = c.in_ok-ask.ensures in
    let run = c.in_ok-run_down.ensures.run in
    let exec = c.run_down.new.exec in
    let begun = c.requires.begun.stands (cells_at (store_for s.job s.coverages) s.places.items) in
    let stands = run.stands (asked_honest v s.coverages 0 s.job asked s.places.items is.coverages is.job is.read sure) begun in
    let cells = asked_cells v s.coverages 0 s.job asked s.places.items is.coverages is.job is.read ∙ ap (λ (store : Store). cells_of store asked) (reads_store v c.requires.unheld) in
    let answer = c.in_ok-text.ensures (cells_of v.store asked) (subst (λ f. StandsFor f exec) cells stands) in
    fault_given v.store (typed_view c.args.typed.now) (plan_in c.args.exec.now) (plan_in exec) c.requires.plan run.plan asked c.coverages.ensures c.in-Refused.fault
    (subst (IsAnswer (planned (cells_of v.store asked) (plan_in exec))) c.in-Refused.is answer) ∙ ap Err (sym c.refusal.ensures)

pub returns-in_err-ask-clause-told : goal.returns-in_err-ask-clause-told
returns-in_err-ask-clause-told g c =
    let p = err_from_is_err_and c.from_residual.result c.from_residual.ensures.1 in
    rw (p.1, p.2) (told_none _ _ _ (λ f. absurd cc) (ap (λ (v : ServerView). v.failures) c.ask.ensures.coverages))

pub returns-in_err-run_down-clause-told : goal.returns-in_err-run_down-clause-told
returns-in_err-run_down-clause-told g c =
    let p = err_from_is_err_and c.from_residual-in_err-run_down.result c.from_residual-in_err-run_down.ensures.1 in
    let e = c.in_err-run_down.field-0.0 in
    let w = c.run_down.new.source.coverages in
    rw (p.1, p.2)
    (subst (λ (v : ServerView). TellsFailures (Err (cell_refusal e)) v w) c.in_ok-ask.ensures.coverages
    (report_told e _ c.ask.new.self.coverages.failures w.failures c.in_err-run_down.ensures.reports))

pub returns-in_err-text-clause-told : goal.returns-in_err-text-clause-told
returns-in_err-text-clause-told g c =
    let p = err_from_is_err_and c.from_residual-in_err-text.result c.from_residual-in_err-text.ensures.1 in
    rw (p.1, p.2)
    (told_none _ _ _ (λ f. absurd cc) (c.in_ok-run_down.ensures.reports ∙ ap (λ (v : ServerView). v.failures) c.in_ok-ask.ensures.coverages))

pub returns-in-Text-clause-told : goal.returns-in-Text-clause-told
returns-in-Text-clause-told g c =
    told_done _ _ _ (c.in_ok-run_down.ensures.reports ∙ ap (λ (v : ServerView). v.failures) c.in_ok-ask.ensures.coverages)

pub returns-in-Refused-clause-told : goal.returns-in-Refused-clause-told
returns-in-Refused-clause-told g c =
    told_none _ _ _ (λ f. absurd cc)
    (c.in_ok-run_down.ensures.reports ∙ ap (λ (v : ServerView). v.failures) c.in_ok-ask.ensures.coverages)
