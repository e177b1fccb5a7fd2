-- A template is expanded, and its query answered.
use Rattle.std.proofs.Common.{◌≡◌, Err, refl, subst}
use Rattle.std.proofs.lemmas.Result.{err_from_is_err_and}
use Rattle.kvp_front.specs.Templates.{template_view}
use Rattle.coverage_server.specs.declared.error.AnswerError.{AnswerError}
use Rattle.coverage_server.specs.declared.error.AnswerError.TheVariants.{DiskFault}
use Rattle.coverage_server.specs.Templates.{GivesExpansion, expansion}
use Rattle.coverage_server.proofs.ToldLemmas.{told_none}
use Rattle.coverage_server.proofs.templates.process_template.Goals as goal

pub returns-in_err-text-clause-told : goal.returns-in_err-text-clause-told
returns-in_err-text-clause-told g c =
    let p = err_from_is_err_and c.from_residual.result c.from_residual.ensures.1 in
    let expanded = expansion (template_view c.args.request.now) c.args.cells.now.coverages.store in
    let none : c.in_err-text.field-0.0 ≡ DiskFault → ⊥ = λ f. subst (λ (e : AnswerError). GivesExpansion expanded (Err e)) f
    c.in_err-text.ensures in
    rw (p.1, p.2) (told_none c.in_err-text.field-0.0 _ _ none refl)
