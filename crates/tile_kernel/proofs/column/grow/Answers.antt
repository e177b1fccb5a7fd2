use Rattle.std.proofs.Common.{arith}
use Rattle.std.proofs.lemmas.Grind.{common_steps}
use Rattle.tile_kernel.proofs.column.grow.Goals as goal

pub returns-then-len-clause-kept : goal.returns-then-len-clause-kept
returns-then-len-clause-kept g c = grind (arith, common_steps)

pub returns-else-len-clause-kept : goal.returns-else-len-clause-kept
returns-else-len-clause-kept g c = grind (arith, common_steps)
