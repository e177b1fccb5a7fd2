use Rattle.std.proofs.Common.{arith}
use Rattle.std.proofs.lemmas.Grind.{common_steps}
use Rattle.plan_rewrite.proofs.hoisting.passes.+hoist_passes.Goals as goal

pub returns-in-None-clause-regs : goal.returns-in-None-clause-regs
returns-in-None-clause-regs t c = grind (arith, common_steps)

pub returns-in-None-clause-passes : goal.returns-in-None-clause-passes
returns-in-None-clause-passes t c = grind (arith, common_steps)

pub returns-in_ok-push-in-Some-clause-regs : goal.returns-in_ok-push-in-Some-clause-regs
returns-in_ok-push-in-Some-clause-regs t c = grind (arith, common_steps)

pub returns-in_ok-push-in-Some-clause-passes : goal.returns-in_ok-push-in-Some-clause-passes
returns-in_ok-push-in-Some-clause-passes t c = grind (arith, common_steps)
