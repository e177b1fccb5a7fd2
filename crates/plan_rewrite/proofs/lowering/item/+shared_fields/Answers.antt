use Rattle.std.proofs.Common.{arith}
use Rattle.std.proofs.lemmas.Grind.{common_steps}
use Rattle.plan_rewrite.proofs.lowering.item.+shared_fields.Goals as goal

pub returns-in_ok-inner-in-Slice-clause-binds : goal.returns-in_ok-inner-in-Slice-clause-binds
returns-in_ok-inner-in-Slice-clause-binds t c = grind (arith, common_steps)
