use Rattle.std.proofs.Common.{arith}
use Rattle.wcps_parse.proofs.Trees.{record_shown}
use Rattle.wcps_parse.proofs.Trees.{parts_high}
use Rattle.wcps_parse.proofs.grown.record.Goals as goal

pub returns-in_default : goal.returns-in_default
returns-in_default c = grind (arith, record_shown, parts_high)

pub returns-in_default-above : goal.returns-in_default-above
returns-in_default-above c = grind (arith, record_shown, parts_high)

pub returns : goal.returns
returns c = grind (arith, record_shown, parts_high)
