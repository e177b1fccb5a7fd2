use Rattle.std.proofs.Common.{arith}
use Rattle.wcps_parse.proofs.Trees.{brackets_shown}
use Rattle.wcps_parse.proofs.Trees.{subs_high}
use Rattle.wcps_parse.proofs.grown.brackets.Goals as goal

pub returns-in_default : goal.returns-in_default
returns-in_default c = grind (arith, brackets_shown, subs_high)

pub returns-in_default-above : goal.returns-in_default-above
returns-in_default-above c = grind (arith, brackets_shown, subs_high)

pub returns : goal.returns
returns c = grind (arith, brackets_shown, subs_high)
