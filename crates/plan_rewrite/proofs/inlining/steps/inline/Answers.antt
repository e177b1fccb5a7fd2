-- The inlined plan gives the same and stays well-formed, and none of its binds can be inlined.
use Rattle.std.proofs.Common.{◌∙◌, ap, sym, subst}
use Rattle.plan_ir.specs.Plans.{plan_view}
use Rattle.plan_ir.specs.Planned.{planned}
use Rattle.plan_ir.specs.Placed.{IsPlan}
use Rattle.plan_rewrite.specs.Everywhere.{Everywhere}
use Rattle.plan_rewrite.specs.Rewritten.{NoInlinableBind}
use Rattle.plan_rewrite.proofs.InlinedPlans.{inlined-planned}
use Rattle.plan_rewrite.proofs.InlinedPlaced.{plan-placed, steps-reduced}
use Rattle.plan_rewrite.proofs.inlining.steps.inline.Goals as goal

pub returns-clause-planned : goal.returns-clause-planned
returns-clause-planned c s = ap (planned s) c.in_ok-inline_plan.ensures ∙ inlined-planned (plan_view c.args.plan) s

pub returns-clause-placed : goal.returns-clause-placed
returns-clause-placed c h = subst IsPlan (sym c.in_ok-inline_plan.ensures) (plan-placed (plan_view c.args.plan) h)

pub returns-clause-reduced : goal.returns-clause-reduced
returns-clause-reduced c = subst (Everywhere NoInlinableBind) (sym c.in_ok-inline_plan.ensures) (steps-reduced (plan_view c.args.plan).steps)
