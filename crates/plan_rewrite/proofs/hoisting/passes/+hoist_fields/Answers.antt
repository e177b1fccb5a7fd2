use Rattle.std.proofs.Common.{arith}
use Rattle.std.proofs.lemmas.Grind.{common_steps}
use Rattle.plan_rewrite.proofs.hoisting.passes.+hoist_fields.Goals as goal

pub returns-in-None-clause-fields : goal.returns-in-None-clause-fields
returns-in-None-clause-fields t c = grind (arith, common_steps)

pub returns-in-None-clause-passes : goal.returns-in-None-clause-passes
returns-in-None-clause-passes t c = grind (arith, common_steps)

pub returns-in_ok-push-in-Some-clause-fields : goal.returns-in_ok-push-in-Some-clause-fields
returns-in_ok-push-in-Some-clause-fields t c = grind (arith, common_steps)
