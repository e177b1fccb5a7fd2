use Rattle.std.proofs.Common.{arith}
use Rattle.std.proofs.lemmas.Grind.{common_steps}
use Rattle.tile_exec.proofs.samples.coordinates.Goals as goal

pub loop-sample-preserved : goal.loop-sample-preserved
loop-sample-preserved c = grind (arith, common_steps)

pub returns : goal.returns
returns c = grind (arith, common_steps)
