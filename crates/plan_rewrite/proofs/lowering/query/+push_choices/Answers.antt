use Rattle.std.proofs.Common.{arith}
use Rattle.std.proofs.lemmas.Grind.{common_steps}
use Rattle.plan_rewrite.proofs.lowering.query.+push_choices.Goals as goal

pub returns-in-empty : goal.returns-in-empty
returns-in-empty t c = grind (arith, common_steps)

pub returns-after-steps_at : goal.returns-after-steps_at
returns-after-steps_at t c = grind (arith, common_steps)
