use Rattle.std.proofs.Common.{arith}
use Rattle.std.proofs.lemmas.Grind.{common_steps}
use Rattle.tile_kernel.proofs.narrow_loops.write_narrow.Goals as goal

pub returns : goal.returns
returns g c = grind (arith, common_steps)
