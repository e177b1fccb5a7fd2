use Rattle.std.proofs.Common.{arith}
use Rattle.std.proofs.lemmas.Grind.{common_steps}
use Rattle.tile_store.proofs.overlay.fill_run.Goals as goal

pub returns-clause-below : goal.returns-clause-below
returns-clause-below c = grind (arith, common_steps)

pub returns-clause-above : goal.returns-clause-above
returns-clause-above c = grind (arith, common_steps)
