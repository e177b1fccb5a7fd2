use Rattle.std.proofs.Common.{arith}
use Rattle.wcps_types.proofs.Efforts.{bracket_work}
use Rattle.wcps_types.proofs.Efforts.{slice_work}
use Rattle.wcps_types.proofs.effort.+fields_work.Goals as goal

pub returns-in-Bracket : goal.returns-in-Bracket
returns-in-Bracket t c = grind (arith, bracket_work, slice_work)

pub returns-in-Slice : goal.returns-in-Slice
returns-in-Slice t c = grind (arith, bracket_work, slice_work)
