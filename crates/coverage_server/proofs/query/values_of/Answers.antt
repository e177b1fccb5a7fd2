-- The plan that is done is one of the query.
use Rattle.std.proofs.Common.{◌+◌, ◌≤◌, refl, subst}
use Rattle.std.proofs.lemmas.Result.{err_from_is_err_and}
use Rattle.plan_ir.specs.Plans.{PlanTree, plan_view}
use Rattle.coverage_server.specs.Fetching.{most_of_plan}
use Rattle.coverage_server.proofs.FetchingLemmas.{unless_weaker}
use Rattle.coverage_server.proofs.ToldLemmas.{told_none}
use Rattle.coverage_server.proofs.query.values_of.Goals as goal

pub returns-clause-fetched : goal.returns-clause-fetched
returns-clause-fetched g c =
    let before = c.args.cells.now.coverages.fetched in
    let after = c.values_by.new.cells.coverages.fetched in
    unless_weaker c.values_by.result _ _
    (λ x. (
      plan_view c.in_ok-plan.plan,
      c.in_ok-plan.ensures,
      subst (λ (p : PlanTree). after ≤ before + most_of_plan p) c.in_ok-exec.ensures.plan x,
    )) c.values_by.ensures.fetched

pub returns-in_err-plan-clause-told : goal.returns-in_err-plan-clause-told
returns-in_err-plan-clause-told g c =
    let p = err_from_is_err_and c.from_residual.result c.from_residual.ensures.1 in
    rw (p.1, p.2) (told_none _ _ _ (λ f. absurd cc) refl)

pub returns-in_err-exec-clause-told : goal.returns-in_err-exec-clause-told
returns-in_err-exec-clause-told g c =
    let p = err_from_is_err_and c.from_residual-in_err-exec.result c.from_residual-in_err-exec.ensures.1 in
    rw (p.1, p.2) (told_none _ _ _ (λ f. absurd cc) refl)
