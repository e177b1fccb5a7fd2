use Rattle.std.proofs.Common.{arith}
use Rattle.std.proofs.lemmas.Grind.{common_steps}
use Rattle.raster_store.proofs.held.empty_fields.Goals as goal

pub loop-preserved : goal.loop-preserved
loop-preserved c = grind (arith, common_steps)
