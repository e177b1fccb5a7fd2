use Rattle.std.proofs.Common.{arith}
use Rattle.std.proofs.lemmas.Grind.{common_steps}
use Rattle.tile_kernel.proofs.slots.above.Goals as goal

pub overflow_cast-i : goal.overflow_cast-i
overflow_cast-i c = grind (arith, common_steps)

pub overflow_cast-i-2 : goal.overflow_cast-i-2
overflow_cast-i-2 c = grind (arith, common_steps)

pub overflow_sub-i : goal.overflow_sub-i
overflow_sub-i c = grind (arith, common_steps)

pub overflow_cast-span : goal.overflow_cast-span
overflow_cast-span c = grind (arith, common_steps)

pub returns-then-i-lt0-clause-none : goal.returns-then-i-lt0-clause-none
returns-then-i-lt0-clause-none c = grind (arith, common_steps)

pub overflow_cast-result : goal.overflow_cast-result
overflow_cast-result c = grind (arith, common_steps)

pub returns-clause-within : goal.returns-clause-within
returns-clause-within c = grind (arith, common_steps)
