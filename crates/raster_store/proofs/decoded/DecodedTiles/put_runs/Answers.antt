-- The runs that are kept have the cells that were told.
use Rattle.raster_store.proofs.decoded.DecodedTiles.put_runs.Goals as goal

pub returns : goal.returns
returns c = rw c.in-Ok.ensures at c.put.ensures
