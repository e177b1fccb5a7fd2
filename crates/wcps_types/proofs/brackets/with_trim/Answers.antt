use Rattle.std.proofs.Common.{arith}
use Rattle.std.proofs.lemmas.Grind.{common_steps}
use Rattle.wcps_types.proofs.brackets.with_trim.Goals as goal

pub returns-in_default : goal.returns-in_default
returns-in_default c = grind (arith, common_steps)

pub returns-then-bounds-own : goal.returns-then-bounds-own
returns-then-bounds-own c = grind (arith, common_steps)

pub returns-in_err-narrow : goal.returns-in_err-narrow
returns-in_err-narrow c = grind (arith, common_steps)

pub returns-in_err-named : goal.returns-in_err-named
returns-in_err-named c = grind (arith, common_steps)

pub returns : goal.returns
returns c = grind (arith, common_steps)
