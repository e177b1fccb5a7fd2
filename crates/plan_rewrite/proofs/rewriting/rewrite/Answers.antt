-- The inlined and then hoisted plan gives the same, stays well-formed, and has no more units and points of folds.
use Rattle.std.proofs.Common.{◌≤◌, ◌∙◌, ap, sym, subst, map}
use Rattle.plan_ir.specs.Plans.{PlanTree, plan_view}
use Rattle.plan_ir.specs.Planned.{planned}
use Rattle.plan_ir.specs.Placed.{IsPlan}
use Rattle.plan_rewrite.specs.InlinedPlans.{inlined_steps, inlined_plan}
use Rattle.plan_rewrite.specs.HoistedPlans.{hoisted_steps}
use Rattle.plan_rewrite.specs.Everywhere.{Everywhere}
use Rattle.plan_rewrite.specs.Rewritten.{NoInlinableBind, NoFoldIsClosed}
use Rattle.plan_ir.specs.FoldPoints.{unit_bound}
use Rattle.plan_rewrite.proofs.InlinedPlans.{inlined-planned}
use Rattle.plan_rewrite.proofs.InlinedPlaced.{plan-placed, steps-reduced}
use Rattle.plan_rewrite.proofs.HoistedPlans.{hoisted-planned, hoisted-placed, steps-open}
use Rattle.plan_rewrite.proofs.HoistedReduced.{steps-stay-reduced}
use Rattle.plan_rewrite.proofs.OpenFolds.{open-everywhere}
use Rattle.plan_rewrite.proofs.FoldPoints.{rewritten-few}
use Rattle.plan_rewrite.proofs.rewriting.rewrite.Goals as goal

pub returns-clause-planned : goal.returns-clause-planned
returns-clause-planned c h s =
    let p = plan_view c.args.plan in
    ap (planned s) c.in_ok-r.ensures ∙ hoisted-planned (inlined_plan p) s (plan-placed p h) ∙ inlined-planned p s

pub returns-clause-placed : goal.returns-clause-placed
returns-clause-placed c h =
    let p = plan_view c.args.plan in
    subst IsPlan (sym c.in_ok-r.ensures) (hoisted-placed (inlined_plan p) (plan-placed p h))

pub returns-clause-reduced : goal.returns-clause-reduced
returns-clause-reduced c =
    let all = (plan_view c.args.plan).steps in
    subst (Everywhere NoInlinableBind) (sym c.in_ok-r.ensures) (steps-stay-reduced (map inlined_steps all) (steps-reduced all))

pub returns-clause-open : goal.returns-clause-open
returns-clause-open c =
    let all = map inlined_steps (plan_view c.args.plan).steps in
    subst (Everywhere NoFoldIsClosed) (sym c.in_ok-r.ensures) (open-everywhere (map hoisted_steps all) (steps-open all))

pub returns-clause-units : goal.returns-clause-units
returns-clause-units c =
    let p = plan_view c.args.plan in
    subst (λ r. unit_bound r ≤ unit_bound p) (sym c.in_ok-r.ensures) (rewritten-few p)

pub returns-clause-coverages : goal.returns-clause-coverages
returns-clause-coverages c = ap (λ (p : PlanTree). p.coverages) c.in_ok-r.ensures
