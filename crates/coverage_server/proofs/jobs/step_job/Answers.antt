-- Units of a job are done, or one of them fails.
use Rattle.std.proofs.Common.{List, rules, ◌≡◌, ◌++◌, ◌∙◌, ◌-◌, Ok, inl, inr, refl, sym, ap}
use Rattle.std.specs.Prelude.{string_bytes, codes, decimal, ℕ}
use Rattle.std.proofs.lemmas.Result.{err_from_is_err_and}
use Rattle.job_desk.specs.Desks.{job_of}
use Rattle.job_desk.specs.Steps.{Ends}
use Rattle.coverage_server.specs.Holding.{ReleasesFor}
use Rattle.coverage_server.specs.Tiles.{AskedKept, ReadsSpelled, asked_state}
use Rattle.coverage_server.specs.Views.{ServerView, still_of}
use Rattle.coverage_server.proofs.FaultLemmas.{any_err}
use Rattle.coverage_server.proofs.FetchingLemmas.{refused_units, units_fetched, unless_any}
use Rattle.coverage_server.proofs.PlacedLemmas.{ends_lay}
use Rattle.coverage_server.proofs.StepLemmas.{absent_left, step_absent, job_told, is_asked, asked_signatures, step_done, ends_as, step_ok, step_err, refused_reads, step_leaves, step_quiet, step_told}
use Rattle.coverage_server.proofs.ToldLemmas.{refused_told, told_done, told_none}
use Rattle.coverage_server.proofs.jobs.step_job.Goals as goal

pub returns-in_default-clause-answered : goal.returns-in_default-clause-answered
returns-in_default-clause-answered g c =
    step_absent c.args.cells.now.coverages c.args.desk.now c.args.number c.args.units (absent_left c.args.number c.args.desk.now.jobs c.in_default.ensures)

pub returns-then-left-eq0-clause-answered : goal.returns-then-left-eq0-clause-answered
returns-then-left-eq0-clause-answered g c =
    let old = c.args.desk.now in
    let n = c.args.number in
    let told = job_told (job_of n old.jobs) c.in-Some.left c.in-Some.ensures in
    let text : string_bytes c.in_ok-reply.reply ≡ codes "left " ++ decimal (c.in-Some.left - c.args.units) ++ codes "\n" = search rules in
    let reply = text ∙ ap (λ l. codes "left " ++ decimal (l - c.args.units) ++ codes "\n") c.if-left-eq0.true in
    step_done c.args.cells.now.coverages old n c.args.units told.0 told.1 (sym told.2 ∙ c.if-left-eq0.true) c.in_ok-reply.reply reply

pub ask-requires : goal.ask-requires
ask-requires g c =
    let old = c.args.desk.now in
    let told = job_told (job_of c.args.number old.jobs) c.in-Some.left c.in-Some.ensures in
    record {
      held = (is_asked c.args.cells.now.coverages old c.args.number c.in-Some.left _ c.requires.holding c.in-Some.ensures c.in-Some-coverages.ensures.coverages c.if-left-eq0.false told.0 told.1).held;
    }

pub step-requires : goal.step-requires
step-requires g c =
    let v = c.args.cells.now.coverages in
    let old = c.args.desk.now in
    let n = c.args.number in
    let told = job_told (job_of n old.jobs) c.in-Some.left c.in-Some.ensures in
    let x = is_asked v old n c.in-Some.left _ c.requires.holding c.in-Some.ensures c.in-Some-coverages.ensures.coverages c.if-left-eq0.false told.0 told.1 in
    let read = asked_signatures v c.ask.new.self.coverages n c.ask.new.self.job _ c.ask.new.self.places.items c.in_ok-ask.ensures.coverages c.in_ok-ask.ensures.job c.in_ok-ask.ensures.read in
    rw told.1 (λ some. read ∙ x.coverages)

pub returns-in-Ok-clause-answered : goal.returns-in-Ok-clause-answered
returns-in-Ok-clause-answered g c =
    let x = c.in-Ok.ensures.source in
    let w = c.step.new.source.coverages in
    let ends : Ends (Ok c.in-Ok.field-0) (w ≡ x.read.coverages) (ReleasesFor c.args.number x.read.coverages w) = ends_as (Ok c.in-Ok.field-0) (λ e. rw e refl) (λ r. r) x.ends in
    let text : string_bytes c.in_ok-reply.reply ≡ codes "left " ++ decimal (c.in-Some.left - c.args.units) ++ codes "\n" = search rules in
    let done = step_ok c.args.cells.now.coverages c.ask.new.self.coverages c.args.desk.now c.step.new.self c.args.number c.args.units c.in-Some.left c.in-Some-coverages.coverages.now c.ask.new.self.places.items
    c.ask.new.self.job c.in_ok-ask.ensures.coverages c.in_ok-ask.ensures.job c.in_ok-ask.ensures.read c.in-Some-coverages.ensures.desk c.requires.holding c.in-Some.ensures c.in-Some-coverages.ensures.coverages c.if-left-eq0.false
    x.read.coverages (ap (λ (k : ServerView × ℕ × List ℕ). k.0) x.reads.kept) w c.in-Ok.field-0 c.in-Ok.ensures.stepped ends x.reports in
    done.moves c.in_ok-reply.reply text

pub returns-in-Ok-clause-holding : goal.returns-in-Ok-clause-holding
returns-in-Ok-clause-holding g c =
    let x = c.in-Ok.ensures.source in
    let w = c.step.new.source.coverages in
    let ends : Ends (Ok c.in-Ok.field-0) (w ≡ x.read.coverages) (ReleasesFor c.args.number x.read.coverages w) = ends_as (Ok c.in-Ok.field-0) (λ e. rw e refl) (λ r. r) x.ends in
    (step_ok c.args.cells.now.coverages c.ask.new.self.coverages c.args.desk.now c.step.new.self c.args.number c.args.units c.in-Some.left c.in-Some-coverages.coverages.now c.ask.new.self.places.items
    c.ask.new.self.job c.in_ok-ask.ensures.coverages c.in_ok-ask.ensures.job c.in_ok-ask.ensures.read c.in-Some-coverages.ensures.desk c.requires.holding c.in-Some.ensures c.in-Some-coverages.ensures.coverages c.if-left-eq0.false
    x.read.coverages (ap (λ (k : ServerView × ℕ × List ℕ). k.0) x.reads.kept) w c.in-Ok.field-0 c.in-Ok.ensures.stepped ends x.reports).holding

pub returns-in-Err-clause-answered : goal.returns-in-Err-clause-answered
returns-in-Err-clause-answered g c =
    let x = c.in-Err.ensures.source in
    let w : c.step.new.source.coverages ≡ x.read.coverages = rw x.ends refl in
    (step_err c.args.cells.now.coverages c.ask.new.self.coverages c.args.desk.now c.step.new.self c.args.number c.args.units c.in-Some.left c.in-Some-coverages.coverages.now c.ask.new.self.places.items
    c.ask.new.self.job c.in_ok-ask.ensures.coverages c.in_ok-ask.ensures.job c.in_ok-ask.ensures.read c.in-Some-coverages.ensures.desk c.requires.holding c.in-Some.ensures c.in-Some-coverages.ensures.coverages c.if-left-eq0.false
    x.read.coverages (ap (λ (k : ServerView × ℕ × List ℕ). k.0) x.reads.kept) c.step.new.source.coverages c.in-Err.error c.step_refusal.result w c.step_refusal.ensures c.in-Err.ensures.refused (asked_state x.read.job x.read.places.items x.read.coverages) refl x.reports).0

pub returns-in-Err-clause-holding : goal.returns-in-Err-clause-holding
returns-in-Err-clause-holding g c =
    let x = c.in-Err.ensures.source in
    let w : c.step.new.source.coverages ≡ x.read.coverages = rw x.ends refl in
    (step_err c.args.cells.now.coverages c.ask.new.self.coverages c.args.desk.now c.step.new.self c.args.number c.args.units c.in-Some.left c.in-Some-coverages.coverages.now c.ask.new.self.places.items
    c.ask.new.self.job c.in_ok-ask.ensures.coverages c.in_ok-ask.ensures.job c.in_ok-ask.ensures.read c.in-Some-coverages.ensures.desk c.requires.holding c.in-Some.ensures c.in-Some-coverages.ensures.coverages c.if-left-eq0.false
    x.read.coverages (ap (λ (k : ServerView × ℕ × List ℕ). k.0) x.reads.kept) c.step.new.source.coverages c.in-Err.error c.step_refusal.result w c.step_refusal.ensures c.in-Err.ensures.refused (asked_state x.read.job x.read.places.items x.read.coverages) refl x.reports).1

pub returns-in-Err-clause-reads : goal.returns-in-Err-clause-reads
returns-in-Err-clause-reads g c =
    let x = c.in-Err.ensures.source in
    let w : c.step.new.source.coverages ≡ x.read.coverages = rw x.ends refl in
    refused_reads c.in-Err.error (λ (k : AskedKept). ReadsSpelled k.0 k.1 k.2) c.args.cells.now.coverages c.ask.new.self.coverages x.read.coverages c.step.new.source.coverages
    (asked_state c.ask.new.self.job c.ask.new.self.places.items c.ask.new.self.coverages) (asked_state x.read.job x.read.places.items x.read.coverages)
    c.in_ok-ask.ensures.coverages (ap (λ (k : ServerView × ℕ × List ℕ). k.0) x.reads.kept) w refl refl x.reports

pub returns-in-Err-clause-jobs : goal.returns-in-Err-clause-jobs
returns-in-Err-clause-jobs g c =
    step_leaves _ c.args.number c.args.units c.args.desk.now c.step.new.self c.in-Err.error c.in-Err.ensures.refused

pub returns-in-Err-clause-fetches : goal.returns-in-Err-clause-fetches
returns-in-Err-clause-fetches g c =
    let x = c.in-Err.ensures.source in
    let v = c.args.cells.now.coverages in
    let w = c.step.new.source.coverages in
    let as_was : w ≡ x.read.coverages = rw x.ends refl in
    refused_units c.args.number c.args.desk.now c.step.new.self c.ask.new.self.coverages v x.read.coverages w c.ask.new.self.job x.read.job c.ask.new.self.places.items x.read.places.items
    c.in_ok-ask.ensures.coverages c.in-Err.error c.step_refusal.result as_was c.step_refusal.ensures x.fetched

pub returns-in-Ok-clause-fetches : goal.returns-in-Ok-clause-fetches
returns-in-Ok-clause-fetches g c =
    let x = c.in-Ok.ensures.source in
    let v = c.args.cells.now.coverages in
    let w = c.step.new.source.coverages in
    let ends : Ends (Ok c.in-Ok.field-0) (w ≡ x.read.coverages) (ReleasesFor c.args.number x.read.coverages w) = ends_as
    (Ok c.in-Ok.field-0) (λ e. rw e refl) (λ r. r) x.ends in
    inr (units_fetched c.args.number c.args.desk.now c.step.new.self c.ask.new.self.coverages v x.read.coverages w c.ask.new.self.job x.read.job c.ask.new.self.places.items x.read.places.items
    c.in_ok-ask.ensures.coverages c.in-Ok.field-0 ends x.fetched)

pub returns-then-left-eq0-clause-fetches : goal.returns-then-left-eq0-clause-fetches
returns-then-left-eq0-clause-fetches g c = inl refl

pub returns-in_default-clause-jobs : goal.returns-in_default-clause-jobs
returns-in_default-clause-jobs g c = inl refl

pub returns-in_default-clause-fetches : goal.returns-in_default-clause-fetches
returns-in_default-clause-fetches g c = inr (inl refl)

pub returns-in_err-reply-clause-jobs : goal.returns-in_err-reply-clause-jobs
returns-in_err-reply-clause-jobs g c = any_err _ _ (inl refl)

pub returns-in_err-reply-clause-fetches : goal.returns-in_err-reply-clause-fetches
returns-in_err-reply-clause-fetches g c = unless_any _ _ (inl refl)

pub returns-in_err-ask-clause-jobs : goal.returns-in_err-ask-clause-jobs
returns-in_err-ask-clause-jobs g c = any_err _ _ (inl refl)

pub returns-in_err-ask-clause-fetches : goal.returns-in_err-ask-clause-fetches
returns-in_err-ask-clause-fetches g c =
    unless_any _ _ (inl (ap (λ (v : ServerView). v.fetched) c.ask.ensures.coverages))

pub returns-then-left-eq0-clause-lays : goal.returns-then-left-eq0-clause-lays
returns-then-left-eq0-clause-lays g c = inl refl

pub returns-in-Ok-clause-lays : goal.returns-in-Ok-clause-lays
returns-in-Ok-clause-lays g c =
    let x = c.in-Ok.ensures.source in
    let v = c.args.cells.now.coverages in
    let w = c.step.new.source.coverages in
    let ends : Ends (Ok c.in-Ok.field-0) (w ≡ x.read.coverages) (ReleasesFor c.args.number x.read.coverages w) = ends_as
    (Ok c.in-Ok.field-0) (λ e. rw e refl) (λ r. r) x.ends in
    let still : still_of x.read.coverages ≡ still_of v = ap (λ (k : ServerView × ℕ × List ℕ). k.0) x.reads.kept ∙ ap
    still_of c.in_ok-ask.ensures.coverages in
    ends_lay c.args.number c.in-Ok.field-0 v x.read.coverages w still ends

pub returns-in_default-clause-told : goal.returns-in_default-clause-told
returns-in_default-clause-told g c = told_none _ _ _ (λ f. absurd cc) refl

pub returns-in_err-reply-clause-told : goal.returns-in_err-reply-clause-told
returns-in_err-reply-clause-told g c =
    let p = err_from_is_err_and c.from_residual.result c.from_residual.ensures.1 in
    rw (p.1, p.2) (told_none _ _ _ (λ f. absurd cc) refl)

pub returns-then-left-eq0-clause-told : goal.returns-then-left-eq0-clause-told
returns-then-left-eq0-clause-told g c = told_done _ _ _ refl

pub returns-in_err-ask-clause-told : goal.returns-in_err-ask-clause-told
returns-in_err-ask-clause-told g c =
    let p = err_from_is_err_and c.from_residual-in_err-ask.result c.from_residual-in_err-ask.ensures.1 in
    rw (p.1, p.2) (told_none _ _ _ (λ f. absurd cc) (ap (λ (v : ServerView). v.failures) c.ask.ensures.coverages))

pub returns-in-Ok-clause-told : goal.returns-in-Ok-clause-told
returns-in-Ok-clause-told g c =
    let x = c.in-Ok.ensures.source in
    let w = c.step.new.source.coverages in
    let ends : Ends (Ok c.in-Ok.field-0) (w ≡ x.read.coverages) (ReleasesFor c.args.number x.read.coverages w) = ends_as
    (Ok c.in-Ok.field-0) (λ e. rw e refl) (λ r. r) x.ends in
    told_done _ _ _
    (step_quiet c.args.number c.in-Ok.field-0 c.args.cells.now.coverages c.ask.new.self.coverages x.read.coverages w
    c.in_ok-ask.ensures.coverages x.reports ends)

pub returns-in-Err-clause-told : goal.returns-in-Err-clause-told
returns-in-Err-clause-told g c =
    let x = c.in-Err.ensures.source in
    let e = c.in-Err.error in
    let ends : c.step.new.source.coverages ≡ x.read.coverages = rw x.ends refl in
    let told = step_told e (λ (k : AskedKept). ReadsSpelled k.0 k.1 k.2)
    (asked_state c.ask.new.self.job c.ask.new.self.places.items c.ask.new.self.coverages)
    (asked_state x.read.job x.read.places.items x.read.coverages) x.reports in
    rw c.step_refusal.ensures
    (refused_told e _ c.args.cells.now.coverages c.ask.new.self.coverages x.read.coverages c.step.new.source.coverages
    c.in_ok-ask.ensures.coverages ends told)
