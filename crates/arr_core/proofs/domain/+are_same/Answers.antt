use Rattle.std.proofs.Common.{arith}
use Rattle.std.proofs.lemmas.Grind.{common_steps}
use Rattle.arr_core.proofs.domain.+are_same.Goals as goal

pub returns-in-empty : goal.returns-in-empty
returns-in-empty t c = grind (arith, common_steps)

pub returns-then-is_same_axis : goal.returns-then-is_same_axis
returns-then-is_same_axis t c = grind (arith, common_steps)
