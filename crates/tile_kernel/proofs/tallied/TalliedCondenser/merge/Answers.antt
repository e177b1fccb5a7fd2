use Rattle.std.proofs.Common.{arith}
use Rattle.std.proofs.lemmas.Grind.{common_steps}
use Rattle.tile_kernel.proofs.tallied.TalliedCondenser.merge.Goals as goal

pub returns-clause-stands : goal.returns-clause-stands
returns-clause-stands g c = grind (arith, common_steps)

pub returns-clause-turned : goal.returns-clause-turned
returns-clause-turned g c = grind (arith, common_steps)
