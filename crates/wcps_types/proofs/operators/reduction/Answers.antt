use Rattle.std.proofs.Common.{arith}
use Rattle.std.proofs.lemmas.Grind.{common_steps}
use Rattle.wcps_types.proofs.operators.reduction.Goals as goal

pub returns-in_err-domain : goal.returns-in_err-domain
returns-in_err-domain c = grind (arith, common_steps)

pub returns-then-boolean : goal.returns-then-boolean
returns-then-boolean c = grind (arith, common_steps)

pub returns-then-not-boolean : goal.returns-then-not-boolean
returns-then-not-boolean c = grind (arith, common_steps)

pub returns-then-not-boolean-2 : goal.returns-then-not-boolean-2
returns-then-not-boolean-2 c = grind (arith, common_steps)

pub returns-else-boolean : goal.returns-else-boolean
returns-else-boolean c = grind (arith, common_steps)

pub returns-else-not-boolean : goal.returns-else-not-boolean
returns-else-not-boolean c = grind (arith, common_steps)

pub returns-else-not-boolean-2 : goal.returns-else-not-boolean-2
returns-else-not-boolean-2 c = grind (arith, common_steps)
