use Rattle.std.proofs.Common.{arith}
use Rattle.std.proofs.lemmas.Grind.{common_steps}
use Rattle.wcps_types.proofs.operators.unary.Goals as goal

pub returns-in_err-domain : goal.returns-in_err-domain
returns-in_err-domain c = grind (arith, common_steps)

pub returns-in_err-node-in-Negate : goal.returns-in_err-node-in-Negate
returns-in_err-node-in-Negate c = grind (arith, common_steps)

pub returns-then-not-boolean : goal.returns-then-not-boolean
returns-then-not-boolean c = grind (arith, common_steps)

pub returns-in_err-node-in-Not : goal.returns-in_err-node-in-Not
returns-in_err-node-in-Not c = grind (arith, common_steps)

pub returns-in_ok-node-in-Negate : goal.returns-in_ok-node-in-Negate
returns-in_ok-node-in-Negate c = grind (arith, common_steps)

pub returns-in_ok-node-in-Not : goal.returns-in_ok-node-in-Not
returns-in_ok-node-in-Not c = grind (arith, common_steps)
