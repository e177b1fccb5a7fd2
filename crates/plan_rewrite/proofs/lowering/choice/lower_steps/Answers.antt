-- The steps give what the combination answers, are well-formed, and have at most one unit more than its work.
use Rattle.std.proofs.Common.{sym, subst}
use Rattle.plan_rewrite.specs.LoweredItems.{returned}
use Rattle.plan_rewrite.specs.Lowered.{AreStepsFor}
use Rattle.plan_rewrite.proofs.LoweredSteps.{steps-mean, steps-placed, steps-few}
use Rattle.plan_rewrite.proofs.lowering.choice.lower_steps.Goals as goal

pub returns : goal.returns
returns c =
    let condition = c.args.condition.now in
    let item = c.args.item.now in
    subst (AreStepsFor (returned condition item)) (sym c.in_ok-t.ensures) (record { planned = steps-mean condition item; placed = steps-placed condition item; units = steps-few condition item })
