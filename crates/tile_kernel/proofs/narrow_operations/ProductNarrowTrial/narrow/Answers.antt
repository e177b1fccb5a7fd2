use Rattle.std.proofs.Common.{arith}
use Rattle.std.proofs.lemmas.Grind.{common_steps}
use Rattle.tile_kernel.proofs.narrow_operations.ProductNarrowTrial.narrow.Goals as goal

pub returns : goal.returns
returns c = grind (arith, common_steps)
