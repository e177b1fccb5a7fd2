-- What the parts on the coverages answer, over states.
use Rattle.std.proofs.Common.{rules, ◌≡◌, ℕ, List, Result, Err, refl, ap, subst}
use Rattle.std.specs.Prelude.{◌⊎◌, string_bytes}
use Rattle.kvp_front.specs.Contents.{content_view}
use Rattle.kvp_front.specs.Requests.{cancel_job, fetch_job, submit_query}
use Rattle.kvp_front.specs.Templates.{template_view}
use Rattle.http_front.specs.declared.reply.Reply.{Reply}
use Rattle.coverage_server.specs.declared.error.AnswerError.{AnswerError}
use Rattle.coverage_server.specs.declared.error.AnswerError.TheVariants.{DiskFault}
use Rattle.coverage_server.specs.Answered.{Answered, AnswersInsertion, AnswersJob}
use Rattle.coverage_server.specs.Damage.{SpoilsText}
use Rattle.coverage_server.specs.Fetching.{FetchesNone, FetchesText, UnlessFails}
use Rattle.coverage_server.specs.Layouts.{LaysHeld, layout_of}
use Rattle.coverage_server.specs.Machine.{Answers, AnswersTemplate, Deletes, Describes, Expands, Inserts, Lists, Updates}
use Rattle.coverage_server.specs.Views.{ServerView}
use Rattle.coverage_server.proofs.FaultLemmas.{any_err, any_ok, each_err, err_each, on_err, on_ok}
use Rattle.coverage_server.proofs.FetchingLemmas.{unless_told}
use Rattle.coverage_server.proofs.FreeLemmas.{unchanged, still_unchanged, none_changed}
use Rattle.coverage_server.proofs.HoldingLemmas.{unheld_zero, holding_same}
use Rattle.coverage_server.proofs.PlacedLemmas.{refused_leaves, still_laid}
use Rattle.coverage_server.proofs.SpelledLemmas.{insert_keeps, delete_keeps, still_spelled, stepped_spelled, unheld_spelled}
use Rattle.coverage_server.proofs.StandingLemmas.{lifted}
use Rattle.coverage_server.proofs.ToldLemmas.{told_quiet}
use Rattle.coverage_server.proofs.server.Server.answered.Goals as goal

pub returns-in-InsertCoverage-clause-answered : goal.returns-in-InsertCoverage-clause-answered
returns-in-InsertCoverage-clause-answered g c =
    let u = c.in-InsertCoverage.insertion in
    let v = c.self.inside.cells.coverages in
    let desk = c.self.inside.desk in
    rw (← c.self.view_is, c.in-InsertCoverage.is)
    (lifted desk v c.insert.new.coverages (Inserts u.coverage u.intervals.items u.fields.items) (λ honest. c.insert.ensures.keeps.held) _ _ c.insert.result c.insert.ensures.unchanged c.insert.ensures.answered)

pub returns-in-UpdateCoverage-clause-answered : goal.returns-in-UpdateCoverage-clause-answered
returns-in-UpdateCoverage-clause-answered g c =
    let u = c.in-UpdateCoverage.change in
    let v = c.self.inside.cells.coverages in
    let desk = c.self.inside.desk in
    rw (← c.self.view_is, c.in-UpdateCoverage.is)
    (lifted desk v c.update.new.coverages (Updates u.coverage u.field u.intervals.items (content_view u.content)) c.update.ensures.held.values _ _ c.update.result c.update.ensures.unchanged c.update.ensures.answered)

pub returns-in-DeleteCoverage-clause-answered : goal.returns-in-DeleteCoverage-clause-answered
returns-in-DeleteCoverage-clause-answered g c =
    let name = c.in-DeleteCoverage.name in
    let v = c.self.inside.cells.coverages in
    let desk = c.self.inside.desk in
    rw (← c.self.view_is, c.in-DeleteCoverage.is)
    (lifted desk v c.delete.new.coverages (Deletes name) (λ honest. c.delete.ensures.keeps.held) _ _ c.delete.result c.delete.ensures.unchanged c.delete.ensures.answered)

pub returns-in-ProcessCoverages-clause-answered : goal.returns-in-ProcessCoverages-clause-answered
returns-in-ProcessCoverages-clause-answered g c =
    let v = c.self.inside.cells.coverages in
    let w = c.process.new.cells.coverages in
    let is : c.as_str.result.now ≡ string_bytes c.in-ProcessCoverages.query = search rules in
    rw (← c.self.view_is, c.in-ProcessCoverages.is)
    (lifted c.self.inside.desk v w (Answers (string_bytes c.in-ProcessCoverages.query)) (λ honest. ap (λ (u : ServerView). u.held) c.process.ensures.still) _ _ c.process.result
    (any_err c.process.result _ (still_unchanged v w c.process.ensures.still))
    (subst (λ (q : List ℕ). Answered (Answers q) _ (SpoilsText q v) v w c.process.result) is c.process.ensures.answered))

pub returns-in-ProcessTemplate-clause-answered : goal.returns-in-ProcessTemplate-clause-answered
returns-in-ProcessTemplate-clause-answered g c =
    let v = c.self.inside.cells.coverages in
    let w = c.process_template.new.cells.coverages in
    rw (← c.self.view_is, c.in-ProcessTemplate.is)
    (lifted c.self.inside.desk v w (AnswersTemplate (template_view c.in-ProcessTemplate.template)) (λ honest. ap (λ (u : ServerView). u.held) c.process_template.ensures.still) _ _ c.process_template.result
    (any_err c.process_template.result _ (still_unchanged v w c.process_template.ensures.still)) c.process_template.ensures.answered)

pub returns-in-SubmitQuery-clause-answered : goal.returns-in-SubmitQuery-clause-answered
returns-in-SubmitQuery-clause-answered g c =
    let v = c.self.inside.cells.coverages in
    let w = c.submit_query.new.cells.coverages in
    let is : c.as_str-in-SubmitQuery.result.now ≡ string_bytes c.in-SubmitQuery.query = search rules in
    rw (← c.self.view_is, c.in-SubmitQuery.is)
    (subst (λ (q : List ℕ). AnswersJob (submit_query q) v c.self.inside.desk w c.submit_query.new.desk c.submit_query.result) is
    c.submit_query.ensures.answered)

pub returns-in-CancelJob-clause-answered : goal.returns-in-CancelJob-clause-answered
returns-in-CancelJob-clause-answered g c = rw (← c.self.view_is, c.in-CancelJob.is) c.cancel_job.ensures.answered

pub returns-in-StepJob-clause-answered : goal.returns-in-StepJob-clause-answered
returns-in-StepJob-clause-answered g c = rw (← c.self.view_is, c.in-StepJob.is) c.step_job.ensures.answered

pub returns-in-FetchJob-clause-answered : goal.returns-in-FetchJob-clause-answered
returns-in-FetchJob-clause-answered g c = rw (← c.self.view_is, c.in-FetchJob.is) (c.fetch_job.ensures.answered c.self.inside.cells.coverages)

pub returns-in-UpdateCoverage-clause-continues : goal.returns-in-UpdateCoverage-clause-continues
returns-in-UpdateCoverage-clause-continues g c = rw (← c.self.view_is) c.update.ensures.continues

pub invariant_of-self-in-UpdateCoverage : goal.invariant_of-self-in-UpdateCoverage
invariant_of-self-in-UpdateCoverage g c = holding_same c.self.inside.desk c.self.inside.cells.coverages.held c.update.new.coverages.held c.update.ensures.held.told c.self.invariant

pub returns-in-UpdateCoverage-clause-holding : goal.returns-in-UpdateCoverage-clause-holding
returns-in-UpdateCoverage-clause-holding g c = holding_same c.self.inside.desk c.self.inside.cells.coverages.held c.update.new.coverages.held c.update.ensures.held.told c.self.invariant

pub process-requires : goal.process-requires
process-requires g c = record { unheld = unheld_zero c.self.inside.desk c.self.inside.cells.coverages.held c.self.invariant }

pub process_template-requires : goal.process_template-requires
process_template-requires g c = record { unheld = unheld_zero c.self.inside.desk c.self.inside.cells.coverages.held c.self.invariant }

pub returns-in-InsertCoverage-clause-tiles : goal.returns-in-InsertCoverage-clause-tiles
returns-in-InsertCoverage-clause-tiles g c =
    let u = c.in-InsertCoverage.insertion in
    let v = c.self.inside.cells.coverages in
    rw (← c.self.view_is, c.in-InsertCoverage.is)
    (λ sure. (
      c.insert.ensures.lays,
      insert_keeps v c.insert.new.coverages u.coverage u.intervals.items u.fields.items _ c.insert.result
          c.len-whole.ensures.whole
          c.insert.ensures.answered c.insert.ensures.lays c.insert.ensures.answer c.insert.ensures.unchanged
          c.insert.ensures.keeps.content sure,
    ))

pub returns-in-UpdateCoverage-clause-tiles : goal.returns-in-UpdateCoverage-clause-tiles
returns-in-UpdateCoverage-clause-tiles g c =
    rw (← c.self.view_is, c.in-UpdateCoverage.is)
    (λ sure. (on_ok c.update.result _ _ (λ lays. lays sure) c.update.ensures.lays, c.update.ensures.spelled sure))

pub returns-in-DeleteCoverage-clause-tiles : goal.returns-in-DeleteCoverage-clause-tiles
returns-in-DeleteCoverage-clause-tiles g c =
    let v = c.self.inside.cells.coverages in
    rw (← c.self.view_is, c.in-DeleteCoverage.is)
    (λ sure. (
      c.delete.ensures.lays,
      delete_keeps v c.delete.new.coverages c.in-DeleteCoverage.name c.delete.result c.len-whole.ensures.whole
          c.delete.ensures.answered
          c.delete.ensures.lays c.delete.ensures.answer c.delete.ensures.unchanged c.delete.ensures.keeps.content sure,
    ))

pub returns-in-ListCoverages-clause-tiles : goal.returns-in-ListCoverages-clause-tiles
returns-in-ListCoverages-clause-tiles g c =
    rw (← c.self.view_is, c.in-ListCoverages.is)
    (λ sure. (
      any_ok c.list.result _ refl,
      still_spelled c.self.inside.cells.coverages c.self.inside.cells.coverages
          refl,
    ))

pub returns-in-DescribeCoverage-clause-tiles : goal.returns-in-DescribeCoverage-clause-tiles
returns-in-DescribeCoverage-clause-tiles g c =
    rw (← c.self.view_is, c.in-DescribeCoverage.is)
    (λ sure. (
      any_ok c.describe.result _ refl,
      still_spelled c.self.inside.cells.coverages c.self.inside.cells.coverages
          refl,
    ))

pub returns-in-FetchJob-clause-tiles : goal.returns-in-FetchJob-clause-tiles
returns-in-FetchJob-clause-tiles g c =
    rw (← c.self.view_is, c.in-FetchJob.is)
    (λ sure. (
      any_ok c.fetch_job.result _ refl,
      still_spelled c.self.inside.cells.coverages
          c.self.inside.cells.coverages refl,
    ))

pub returns-in-ExpandTemplate-clause-tiles : goal.returns-in-ExpandTemplate-clause-tiles
returns-in-ExpandTemplate-clause-tiles g c =
    rw (← c.self.view_is, c.in-ExpandTemplate.is)
    (λ sure. (
      any_ok c.expand_template.result _ refl,
      still_spelled c.self.inside.cells.coverages
          c.self.inside.cells.coverages refl,
    ))

pub returns-in-ProcessCoverages-clause-tiles : goal.returns-in-ProcessCoverages-clause-tiles
returns-in-ProcessCoverages-clause-tiles g c =
    let v = c.self.inside.cells.coverages in
    rw (← c.self.view_is, c.in-ProcessCoverages.is)
    (λ sure. (
      any_ok c.process.result _ (still_laid v c.process.new.cells.coverages c.process.ensures.still),
      still_spelled v c.process.new.cells.coverages c.process.ensures.still,
    ))

pub returns-in-ProcessTemplate-clause-tiles : goal.returns-in-ProcessTemplate-clause-tiles
returns-in-ProcessTemplate-clause-tiles g c =
    let v = c.self.inside.cells.coverages in
    rw (← c.self.view_is, c.in-ProcessTemplate.is)
    (λ sure. (
      any_ok c.process_template.result _
          (still_laid v c.process_template.new.cells.coverages c.process_template.ensures.still),
      still_spelled v c.process_template.new.cells.coverages c.process_template.ensures.still,
    ))

pub returns-in-SubmitQuery-clause-tiles : goal.returns-in-SubmitQuery-clause-tiles
returns-in-SubmitQuery-clause-tiles g c =
    let v = c.self.inside.cells.coverages in
    let w = c.submit_query.new.cells.coverages in
    let next = c.self.inside.desk.next in
    let is : c.as_str-in-SubmitQuery.result.now ≡ string_bytes c.in-SubmitQuery.query = search rules in
    rw (← c.self.view_is, c.in-SubmitQuery.is)
    (λ sure. (
      on_ok c.submit_query.result _ _ (subst (λ (q : List ℕ). LaysHeld q v.store next (layout_of v) (layout_of w)) is)
          c.submit_query.ensures.lays,
      unheld_spelled v w c.submit_query.ensures.changes.others,
    ))

pub returns-in-StepJob-clause-tiles : goal.returns-in-StepJob-clause-tiles
returns-in-StepJob-clause-tiles g c =
    rw (← c.self.view_is, c.in-StepJob.is)
    (λ sure. (
      c.step_job.ensures.lays,
      stepped_spelled c.self.inside.cells.coverages c.step_job.new.cells.coverages
          c.step_job.ensures.reads.others,
    ))

pub returns-in-CancelJob-clause-tiles : goal.returns-in-CancelJob-clause-tiles
returns-in-CancelJob-clause-tiles g c =
    rw (← c.self.view_is, c.in-CancelJob.is)
    (λ sure. (
      c.cancel_job.ensures.lays,
      unheld_spelled c.self.inside.cells.coverages c.cancel_job.new.cells.coverages
          c.cancel_job.ensures.changes.others,
    ))

pub returns-in-InsertCoverage-clause-leaves : goal.returns-in-InsertCoverage-clause-leaves
returns-in-InsertCoverage-clause-leaves g c =
    rw (← c.self.view_is, c.in-InsertCoverage.is)
    (refused_leaves _ _ _ c.insert.result
    c.insert.ensures.unchanged
    (each_err c.insert.result _ (λ e. refl)))

pub returns-in-UpdateCoverage-clause-leaves : goal.returns-in-UpdateCoverage-clause-leaves
returns-in-UpdateCoverage-clause-leaves g c =
    rw (← c.self.view_is, c.in-UpdateCoverage.is)
    (refused_leaves _ _ _ c.update.result
    c.update.ensures.unchanged
    (each_err c.update.result _ (λ e. refl)))

pub returns-in-DeleteCoverage-clause-leaves : goal.returns-in-DeleteCoverage-clause-leaves
returns-in-DeleteCoverage-clause-leaves g c =
    rw (← c.self.view_is, c.in-DeleteCoverage.is)
    (refused_leaves _ _ _ c.delete.result
    c.delete.ensures.unchanged
    (each_err c.delete.result _ (λ e. refl)))

pub returns-in-ListCoverages-clause-leaves : goal.returns-in-ListCoverages-clause-leaves
returns-in-ListCoverages-clause-leaves g c =
    let v = c.self.inside.cells.coverages in
    rw (← c.self.view_is, c.in-ListCoverages.is)
    (refused_leaves _ _ _ c.list.result
    (none_changed c.list.result v v refl)
    (each_err c.list.result _ (λ e. refl)))

pub returns-in-DescribeCoverage-clause-leaves : goal.returns-in-DescribeCoverage-clause-leaves
returns-in-DescribeCoverage-clause-leaves g c =
    let v = c.self.inside.cells.coverages in
    rw (← c.self.view_is, c.in-DescribeCoverage.is)
    (refused_leaves _ _ _ c.describe.result
    (none_changed c.describe.result v v refl)
    (each_err c.describe.result _ (λ e. refl)))

pub returns-in-ProcessCoverages-clause-leaves : goal.returns-in-ProcessCoverages-clause-leaves
returns-in-ProcessCoverages-clause-leaves g c =
    let v = c.self.inside.cells.coverages in
    rw (← c.self.view_is, c.in-ProcessCoverages.is)
    (refused_leaves _ _ _ c.process.result
    (any_err c.process.result _ (still_unchanged v c.process.new.cells.coverages c.process.ensures.still))
    (each_err c.process.result _ (λ e. refl)))

pub returns-in-SubmitQuery-clause-leaves : goal.returns-in-SubmitQuery-clause-leaves
returns-in-SubmitQuery-clause-leaves g c =
    let v = c.self.inside.cells.coverages in
    rw (← c.self.view_is, c.in-SubmitQuery.is)
    (refused_leaves _ _ _ c.submit_query.result
    (on_err c.submit_query.result _ _ (unchanged v c.submit_query.new.cells.coverages) c.submit_query.ensures.refused)
    (err_each c.submit_query.result _ c.submit_query.ensures.desk))

pub returns-in-StepJob-clause-leaves : goal.returns-in-StepJob-clause-leaves
returns-in-StepJob-clause-leaves g c =
    let v = c.self.inside.cells.coverages in
    rw (← c.self.view_is, c.in-StepJob.is)
    (refused_leaves _ _ _ c.step_job.result
    (on_err c.step_job.result _ _ (still_unchanged v c.step_job.new.cells.coverages) c.step_job.ensures.refused)
    (err_each c.step_job.result _ c.step_job.ensures.jobs))

pub returns-in-FetchJob-clause-leaves : goal.returns-in-FetchJob-clause-leaves
returns-in-FetchJob-clause-leaves g c =
    let v = c.self.inside.cells.coverages in
    rw (← c.self.view_is, c.in-FetchJob.is)
    (refused_leaves _ _ _ c.fetch_job.result
    (none_changed c.fetch_job.result v v refl)
    c.fetch_job.ensures.jobs)

pub returns-in-CancelJob-clause-leaves : goal.returns-in-CancelJob-clause-leaves
returns-in-CancelJob-clause-leaves g c =
    let v = c.self.inside.cells.coverages in
    rw (← c.self.view_is, c.in-CancelJob.is)
    (refused_leaves _ _ _ c.cancel_job.result
    (on_err c.cancel_job.result _ _ (unchanged v c.cancel_job.new.cells.coverages) c.cancel_job.ensures.refused)
    (err_each c.cancel_job.result _ c.cancel_job.ensures.desk))

pub returns-in-ExpandTemplate-clause-leaves : goal.returns-in-ExpandTemplate-clause-leaves
returns-in-ExpandTemplate-clause-leaves g c =
    let v = c.self.inside.cells.coverages in
    rw (← c.self.view_is, c.in-ExpandTemplate.is)
    (refused_leaves _ _ _ c.expand_template.result
    (none_changed c.expand_template.result v v refl)
    (each_err c.expand_template.result _ (λ e. refl)))

pub returns-in-ProcessTemplate-clause-leaves : goal.returns-in-ProcessTemplate-clause-leaves
returns-in-ProcessTemplate-clause-leaves g c =
    let v = c.self.inside.cells.coverages in
    rw (← c.self.view_is, c.in-ProcessTemplate.is)
    (refused_leaves _ _ _ c.process_template.result
    (any_err c.process_template.result _
    (still_unchanged v c.process_template.new.cells.coverages c.process_template.ensures.still))
    (each_err c.process_template.result _ (λ e. refl)))

pub returns-in-InsertCoverage-clause-fetches : goal.returns-in-InsertCoverage-clause-fetches
returns-in-InsertCoverage-clause-fetches g c = rw (← c.self.view_is, c.in-InsertCoverage.is) c.insert.ensures.keeps.fetched

pub returns-in-UpdateCoverage-clause-fetches : goal.returns-in-UpdateCoverage-clause-fetches
returns-in-UpdateCoverage-clause-fetches g c = rw (← c.self.view_is, c.in-UpdateCoverage.is) c.update.ensures.fetched

pub returns-in-DeleteCoverage-clause-fetches : goal.returns-in-DeleteCoverage-clause-fetches
returns-in-DeleteCoverage-clause-fetches g c = rw (← c.self.view_is, c.in-DeleteCoverage.is) c.delete.ensures.keeps.fetched

pub returns-in-ListCoverages-clause-fetches : goal.returns-in-ListCoverages-clause-fetches
returns-in-ListCoverages-clause-fetches g c = rw (← c.self.view_is, c.in-ListCoverages.is) refl

pub returns-in-DescribeCoverage-clause-fetches : goal.returns-in-DescribeCoverage-clause-fetches
returns-in-DescribeCoverage-clause-fetches g c = rw (← c.self.view_is, c.in-DescribeCoverage.is) refl

pub returns-in-FetchJob-clause-fetches : goal.returns-in-FetchJob-clause-fetches
returns-in-FetchJob-clause-fetches g c = rw (← c.self.view_is, c.in-FetchJob.is) refl

pub returns-in-ExpandTemplate-clause-fetches : goal.returns-in-ExpandTemplate-clause-fetches
returns-in-ExpandTemplate-clause-fetches g c = rw (← c.self.view_is, c.in-ExpandTemplate.is) refl

pub returns-in-SubmitQuery-clause-fetches : goal.returns-in-SubmitQuery-clause-fetches
returns-in-SubmitQuery-clause-fetches g c =
    rw (← c.self.view_is, c.in-SubmitQuery.is) (ap (λ (u : ServerView). u.fetched) c.submit_query.ensures.changes.others)

pub returns-in-CancelJob-clause-fetches : goal.returns-in-CancelJob-clause-fetches
returns-in-CancelJob-clause-fetches g c =
    rw (← c.self.view_is, c.in-CancelJob.is) (ap (λ (u : ServerView). u.fetched) c.cancel_job.ensures.changes.others)

pub returns-in-StepJob-clause-fetches : goal.returns-in-StepJob-clause-fetches
returns-in-StepJob-clause-fetches g c =
    rw (← c.self.view_is, c.in-StepJob.is) (unless_told c.step_job.result _ c.step_job.ensures.fetches)

pub returns-in-ProcessTemplate-clause-fetches : goal.returns-in-ProcessTemplate-clause-fetches
returns-in-ProcessTemplate-clause-fetches g c =
    rw (← c.self.view_is, c.in-ProcessTemplate.is) (unless_told c.process_template.result _ c.process_template.ensures.fetched)

pub returns-in-ProcessCoverages-clause-fetches : goal.returns-in-ProcessCoverages-clause-fetches
returns-in-ProcessCoverages-clause-fetches g c =
    let v = c.self.inside.cells.coverages in
    let w = c.process.new.cells.coverages in
    let is : c.as_str.result.now ≡ string_bytes c.in-ProcessCoverages.query = search rules in
    rw (← c.self.view_is, c.in-ProcessCoverages.is)
    (unless_told c.process.result _
    (subst (λ (q : List ℕ). UnlessFails c.process.result (FetchesNone v w ⊎ FetchesText q v w)) is c.process.ensures.fetched))

pub returns-in-InsertCoverage-clause-told : goal.returns-in-InsertCoverage-clause-told
returns-in-InsertCoverage-clause-told g c =
    let v = c.self.inside.cells.coverages in
    let w = c.insert.new.coverages in
    rw (← c.self.view_is) (told_quiet _ v.failures w.failures
    (λ f. subst (AnswersInsertion c.in-InsertCoverage.insertion v w) f c.insert.ensures.answered) c.insert.ensures.keeps.failures)

pub returns-in-UpdateCoverage-clause-told : goal.returns-in-UpdateCoverage-clause-told
returns-in-UpdateCoverage-clause-told g c =
    rw (← c.self.view_is) c.update.ensures.told

pub returns-in-DeleteCoverage-clause-told : goal.returns-in-DeleteCoverage-clause-told
returns-in-DeleteCoverage-clause-told g c =
    let v = c.self.inside.cells.coverages in
    let w = c.delete.new.coverages in
    rw (← c.self.view_is) (told_quiet _ v.failures w.failures
    (λ f. subst (λ (r : Result Reply AnswerError). Answered (Deletes c.in-DeleteCoverage.name) ⊥ ⊥ v w r) f c.delete.ensures.answered)
    c.delete.ensures.keeps.failures)

pub returns-in-ListCoverages-clause-told : goal.returns-in-ListCoverages-clause-told
returns-in-ListCoverages-clause-told g c =
    let v = c.self.inside.cells.coverages in
    rw (← c.self.view_is) (told_quiet _ v.failures v.failures
    (λ f. subst (λ (r : Result Reply AnswerError). Answered Lists ⊥ ⊥ v v r) f c.list.ensures.answered) refl)

pub returns-in-DescribeCoverage-clause-told : goal.returns-in-DescribeCoverage-clause-told
returns-in-DescribeCoverage-clause-told g c =
    let v = c.self.inside.cells.coverages in
    rw (← c.self.view_is) (told_quiet _ v.failures v.failures
    (λ f. subst (λ (r : Result Reply AnswerError). Answered (Describes c.in-DescribeCoverage.name) ⊥ ⊥ v v r) f c.describe.ensures.answered) refl)

pub returns-in-ExpandTemplate-clause-told : goal.returns-in-ExpandTemplate-clause-told
returns-in-ExpandTemplate-clause-told g c =
    let v = c.self.inside.cells.coverages in
    let t = template_view c.in-ExpandTemplate.template in
    rw (← c.self.view_is) (told_quiet _ v.failures v.failures
    (λ f. subst (λ (r : Result Reply AnswerError). Answered (Expands t) ⊥ ⊥ v v r) f c.expand_template.ensures.answered) refl)

pub returns-in-ProcessCoverages-clause-told : goal.returns-in-ProcessCoverages-clause-told
returns-in-ProcessCoverages-clause-told g c =
    rw (← c.self.view_is) c.process.ensures.told

pub returns-in-ProcessTemplate-clause-told : goal.returns-in-ProcessTemplate-clause-told
returns-in-ProcessTemplate-clause-told g c =
    rw (← c.self.view_is) c.process_template.ensures.told

pub returns-in-StepJob-clause-told : goal.returns-in-StepJob-clause-told
returns-in-StepJob-clause-told g c =
    rw (← c.self.view_is) c.step_job.ensures.told

pub returns-in-SubmitQuery-clause-told : goal.returns-in-SubmitQuery-clause-told
returns-in-SubmitQuery-clause-told g c =
    let v = c.self.inside.cells.coverages in
    let w = c.submit_query.new.cells.coverages in
    let q = c.as_str-in-SubmitQuery.result.now in
    rw (← c.self.view_is) (told_quiet _ v.failures w.failures
    (λ f. let told : AnswersJob (submit_query q) v c.self.inside.desk w c.submit_query.new.desk (Err DiskFault) = subst
    (AnswersJob (submit_query q) v c.self.inside.desk w c.submit_query.new.desk) f c.submit_query.ensures.answered in told.0)
    (ap (λ (u : ServerView). u.failures) c.submit_query.ensures.changes.others))

pub returns-in-CancelJob-clause-told : goal.returns-in-CancelJob-clause-told
returns-in-CancelJob-clause-told g c =
    let v = c.self.inside.cells.coverages in
    let w = c.cancel_job.new.cells.coverages in
    rw (← c.self.view_is) (told_quiet _ v.failures w.failures
    (λ f. let told : AnswersJob (cancel_job c.in-CancelJob.job) v c.self.inside.desk w c.cancel_job.new.desk (Err DiskFault) = subst
    (AnswersJob (cancel_job c.in-CancelJob.job) v c.self.inside.desk w c.cancel_job.new.desk) f c.cancel_job.ensures.answered
    in told.0)
    (ap (λ (u : ServerView). u.failures) c.cancel_job.ensures.changes.others))

pub returns-in-FetchJob-clause-told : goal.returns-in-FetchJob-clause-told
returns-in-FetchJob-clause-told g c =
    let v = c.self.inside.cells.coverages in
    rw (← c.self.view_is) (told_quiet _ v.failures v.failures
    (λ f. let told : AnswersJob (fetch_job c.in-FetchJob.job) v c.self.inside.desk v c.fetch_job.new.desk (Err DiskFault) = subst
    (AnswersJob (fetch_job c.in-FetchJob.job) v c.self.inside.desk v c.fetch_job.new.desk) f (c.fetch_job.ensures.answered v)
    in told.0) refl)

pub returns-in-InsertCoverage-clause-grows : goal.returns-in-InsertCoverage-clause-grows
returns-in-InsertCoverage-clause-grows g c = rw (← c.self.view_is, c.in-InsertCoverage.is) c.insert.ensures.keeps.content

pub returns-in-UpdateCoverage-clause-grows : goal.returns-in-UpdateCoverage-clause-grows
returns-in-UpdateCoverage-clause-grows g c = rw (← c.self.view_is, c.in-UpdateCoverage.is) c.update.ensures.grows

pub returns-in-DeleteCoverage-clause-grows : goal.returns-in-DeleteCoverage-clause-grows
returns-in-DeleteCoverage-clause-grows g c = rw (← c.self.view_is, c.in-DeleteCoverage.is) c.delete.ensures.keeps.content

pub returns-in-ListCoverages-clause-grows : goal.returns-in-ListCoverages-clause-grows
returns-in-ListCoverages-clause-grows g c = rw (← c.self.view_is, c.in-ListCoverages.is) refl

pub returns-in-DescribeCoverage-clause-grows : goal.returns-in-DescribeCoverage-clause-grows
returns-in-DescribeCoverage-clause-grows g c = rw (← c.self.view_is, c.in-DescribeCoverage.is) refl

pub returns-in-FetchJob-clause-grows : goal.returns-in-FetchJob-clause-grows
returns-in-FetchJob-clause-grows g c = rw (← c.self.view_is, c.in-FetchJob.is) refl

pub returns-in-ExpandTemplate-clause-grows : goal.returns-in-ExpandTemplate-clause-grows
returns-in-ExpandTemplate-clause-grows g c = rw (← c.self.view_is, c.in-ExpandTemplate.is) refl

pub returns-in-SubmitQuery-clause-grows : goal.returns-in-SubmitQuery-clause-grows
returns-in-SubmitQuery-clause-grows g c = rw (← c.self.view_is, c.in-SubmitQuery.is) (ap (λ (u : ServerView). u.content) c.submit_query.ensures.changes.others)

pub returns-in-CancelJob-clause-grows : goal.returns-in-CancelJob-clause-grows
returns-in-CancelJob-clause-grows g c = rw (← c.self.view_is, c.in-CancelJob.is) (ap (λ (u : ServerView). u.content) c.cancel_job.ensures.changes.others)

pub returns-in-StepJob-clause-grows : goal.returns-in-StepJob-clause-grows
returns-in-StepJob-clause-grows g c = rw (← c.self.view_is, c.in-StepJob.is) (ap (λ (u : ServerView). u.content) c.step_job.ensures.reads.others)

pub returns-in-ProcessCoverages-clause-grows : goal.returns-in-ProcessCoverages-clause-grows
returns-in-ProcessCoverages-clause-grows g c = rw (← c.self.view_is, c.in-ProcessCoverages.is) (ap (λ (u : ServerView). u.content) c.process.ensures.still)

pub returns-in-ProcessTemplate-clause-grows : goal.returns-in-ProcessTemplate-clause-grows
returns-in-ProcessTemplate-clause-grows g c = rw (← c.self.view_is, c.in-ProcessTemplate.is) (ap (λ (u : ServerView). u.content) c.process_template.ensures.still)
