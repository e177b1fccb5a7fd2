-- The cells that are kept are those that were told.
use Rattle.raster_store.proofs.decoded.DecodedTiles.put_cells.Goals as goal

pub returns : goal.returns
returns c = rw c.in-Ok.ensures at c.put.ensures
