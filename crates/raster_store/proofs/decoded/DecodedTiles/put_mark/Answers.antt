-- One mark is another.
use Rattle.std.proofs.Common.{arith}
use Rattle.raster_store.specs.Decoded.{entries_of}
use Rattle.raster_store.proofs.Writes.{mark_kept}
use Rattle.raster_store.proofs.decoded.DecodedTiles.put_mark.Goals as goal

pub returns : goal.returns
returns c = rw (← c.self.view_is) (mark_kept (entries_of c.self.inside.kept) c.self.inside.tested.items c.place_of-place.result c.args.at (omega arith))
