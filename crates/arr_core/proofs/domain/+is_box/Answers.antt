use Rattle.std.proofs.Common.{arith}
use Rattle.std.proofs.lemmas.Grind.{common_steps}
use Rattle.arr_core.proofs.domain.+is_box.Goals as goal

pub returns-in-empty : goal.returns-in-empty
returns-in-empty t c = grind (arith, common_steps)

pub returns-then-is_within : goal.returns-then-is_within
returns-then-is_within t c = grind (arith, common_steps)
