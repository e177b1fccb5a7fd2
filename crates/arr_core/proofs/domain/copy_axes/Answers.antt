use Rattle.std.proofs.Common.{arith}
use Rattle.std.proofs.lemmas.Grind.{common_steps}
use Rattle.arr_core.proofs.domain.copy_axes.Goals as goal

pub loop-axis-preserved : goal.loop-axis-preserved
loop-axis-preserved c = grind (arith, common_steps)

pub returns : goal.returns
returns c = grind (arith, common_steps)
