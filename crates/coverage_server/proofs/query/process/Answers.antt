-- A text is typed, then evaluated.
use Rattle.std.proofs.Common.{◌≡◌, Err, ap, inl, inr, refl, subst}
use Rattle.std.proofs.lemmas.Result.{err_from_is_err_and}
use Rattle.wcps_types.specs.TypedQueries.{query_view as typed_view}
use Rattle.coverage_server.specs.Views.{ServerView}
use Rattle.coverage_server.proofs.AskingLemmas.{refused_text, refused_values, answered_values}
use Rattle.coverage_server.proofs.FetchingLemmas.{unless_any, unless_weaker}
use Rattle.coverage_server.specs.declared.error.AnswerError.{AnswerError}
use Rattle.coverage_server.specs.declared.error.AnswerError.TheVariants.{DiskFault}
use Rattle.coverage_server.specs.Stages.{GivesText}
use Rattle.coverage_server.proofs.ToldLemmas.{told_as, told_done, told_none}
use Rattle.coverage_server.proofs.query.process.Goals as goal

pub returns-in_err-typed-clause-answered : goal.returns-in_err-typed-clause-answered
returns-in_err-typed-clause-answered g c =
    let p = err_from_is_err_and c.from_residual.result c.from_residual.ensures.1 in
    rw (p.1, p.2) (refused_text c.args.cells.now.coverages c.args.text.now c.in_err-typed.field-0.0 c.in_err-typed.ensures)

pub returns-in_err-values-clause-answered : goal.returns-in_err-values-clause-answered
returns-in_err-values-clause-answered g c =
    let p = err_from_is_err_and c.from_residual-in_err-values.result c.from_residual-in_err-values.ensures.1 in
    rw (p.1, p.2)
    (refused_values c.args.cells.now.coverages c.values_of.new.cells.coverages (ap (λ (v : ServerView). v.store) c.in_err-values.ensures.still) c.args.text.now c.in_ok-typed.typed c.in_ok-typed.ensures.typed
    c.in_err-values.field-0.0 c.in_err-values.ensures.values c.in_err-values.ensures.faults)

pub returns-clause-answered : goal.returns-clause-answered
returns-clause-answered g c =
    answered_values c.args.cells.now.coverages c.values_of.new.cells.coverages (ap (λ (v : ServerView). v.store) c.in_ok-values.ensures.still) c.args.text.now c.in_ok-typed.typed c.in_ok-typed.ensures.typed
    c.in_ok-values.values c.in_ok-values.ensures.values

pub returns-in_err-typed-clause-fetched : goal.returns-in_err-typed-clause-fetched
returns-in_err-typed-clause-fetched g c = unless_any _ _ (inl refl)

pub returns-in_err-values-clause-fetched : goal.returns-in_err-values-clause-fetched
returns-in_err-values-clause-fetched g c =
    let p = err_from_is_err_and c.from_residual-in_err-values.result c.from_residual-in_err-values.ensures.1 in
    rw (p.1, p.2)
    (unless_weaker {A = Unit {0}} (Err c.in_err-values.field-0.0) _ _
    (λ x. inr (typed_view c.in_ok-typed.typed, c.in_ok-typed.ensures.typed, x)) c.in_err-values.ensures.fetched)

pub returns-clause-fetched : goal.returns-clause-fetched
returns-clause-fetched g c =
    inr (typed_view c.in_ok-typed.typed, c.in_ok-typed.ensures.typed, c.in_ok-values.ensures.fetched)

pub returns-in_err-typed-clause-told : goal.returns-in_err-typed-clause-told
returns-in_err-typed-clause-told g c =
    let p = err_from_is_err_and c.from_residual.result c.from_residual.ensures.1 in
    let none : c.in_err-typed.field-0.0 ≡ DiskFault → ⊥ = λ f. subst
    (λ (e : AnswerError). GivesText c.args.cells.now.coverages.store c.args.text.now (Err e)) f c.in_err-typed.ensures in
    rw (p.1, p.2) (told_none c.in_err-typed.field-0.0 _ _ none refl)

pub returns-in_err-values-clause-told : goal.returns-in_err-values-clause-told
returns-in_err-values-clause-told g c =
    let p = err_from_is_err_and c.from_residual-in_err-values.result c.from_residual-in_err-values.ensures.1 in
    rw (p.1, p.2) (told_as c.in_err-values.field-0.0 _ _ c.in_err-values.ensures.told)

pub returns-clause-told : goal.returns-clause-told
returns-clause-told g c = told_done _ _ _ (c.in_ok-values.ensures.told.quiet (λ f. absurd cc))
