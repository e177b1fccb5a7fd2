use Rattle.std.proofs.Common.{arith}
use Rattle.std.proofs.lemmas.Grind.{common_steps}
use Rattle.raster_store.proofs.Cells.{stored_same}
use Rattle.raster_store.proofs.store.RasterStore.fill_box.Goals as goal

pub returns-clause-same : goal.returns-clause-same
returns-clause-same g c = grind (arith, common_steps)

pub returns-clause-intact : goal.returns-clause-intact
returns-clause-intact g c = grind (arith, common_steps)

pub returns-clause-snapshots : goal.returns-clause-snapshots
returns-clause-snapshots g c = grind (arith, common_steps)

pub returns-clause-fetched : goal.returns-clause-fetched
returns-clause-fetched g c = grind (arith, common_steps)

pub returns-clause-told : goal.returns-clause-told
returns-clause-told g c = grind (arith, common_steps)

pub returns-clause-done : goal.returns-clause-done
returns-clause-done g c = grind (arith, stored_same)

pub returns-clause-why : goal.returns-clause-why
returns-clause-why g c = grind (arith, stored_same)

pub returns-clause-grows : goal.returns-clause-grows
returns-clause-grows g c = grind (arith, stored_same)
