-- The hoisted plan gives the same and stays well-formed, and each fold in a body uses a variable from outside it.
use Rattle.std.proofs.Common.{◌∙◌, ap, sym, subst, map}
use Rattle.plan_ir.specs.Plans.{plan_view}
use Rattle.plan_ir.specs.Planned.{planned}
use Rattle.plan_ir.specs.Placed.{IsPlan}
use Rattle.plan_rewrite.specs.HoistedPlans.{hoisted_steps}
use Rattle.plan_rewrite.specs.Everywhere.{Everywhere}
use Rattle.plan_rewrite.specs.Rewritten.{NoFoldIsClosed}
use Rattle.plan_rewrite.proofs.OpenFolds.{open-everywhere}
use Rattle.plan_rewrite.proofs.HoistedPlans.{hoisted-planned, hoisted-placed, steps-open}
use Rattle.plan_rewrite.proofs.hoisting.passes.hoist.Goals as goal

pub returns-clause-planned : goal.returns-clause-planned
returns-clause-planned c h s = ap (planned s) c.in_ok-hoist_plan.ensures ∙ hoisted-planned (plan_view c.args.plan) s h

pub returns-clause-placed : goal.returns-clause-placed
returns-clause-placed c h = subst IsPlan (sym c.in_ok-hoist_plan.ensures) (hoisted-placed (plan_view c.args.plan) h)

pub returns-clause-open : goal.returns-clause-open
returns-clause-open c =
    let steps = (plan_view c.args.plan).steps in
    subst (Everywhere NoFoldIsClosed) (sym c.in_ok-hoist_plan.ensures) (open-everywhere (map hoisted_steps steps) (steps-open steps))
