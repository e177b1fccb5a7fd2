use Rattle.std.proofs.Common.{arith}
use Rattle.std.proofs.lemmas.Grind.{common_steps}
use Rattle.tile_kernel.proofs.operate_narrow_one.try_narrow_column.Goals as goal

pub returns-in-Narrow : goal.returns-in-Narrow
returns-in-Narrow c = grind (arith, common_steps)
