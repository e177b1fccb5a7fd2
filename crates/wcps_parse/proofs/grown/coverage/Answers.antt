use Rattle.std.proofs.Common.{arith}
use Rattle.wcps_parse.proofs.Trees.{coverage_shown}
use Rattle.wcps_parse.proofs.Trees.{iters_high}
use Rattle.wcps_parse.proofs.grown.coverage.Goals as goal

pub returns-in_default : goal.returns-in_default
returns-in_default c = grind (arith, coverage_shown, iters_high)

pub returns-in_default-above : goal.returns-in_default-above
returns-in_default-above c = grind (arith, coverage_shown, iters_high)

pub returns : goal.returns
returns c = grind (arith, coverage_shown, iters_high)
