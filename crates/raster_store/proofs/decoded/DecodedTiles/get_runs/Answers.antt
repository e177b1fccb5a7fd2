-- Where the tile is not given away, nothing has changed before it is copied.
use Rattle.raster_store.proofs.decoded.DecodedTiles.get_runs.Goals as goal

pub returns-clause-kept : goal.returns-clause-kept
returns-clause-kept c = rw (c.give.ensures.same c.if-give.false).0 at c.copy_runs-2.ensures.kept
