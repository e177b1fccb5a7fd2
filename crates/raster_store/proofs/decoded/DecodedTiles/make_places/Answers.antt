-- No mark stands at the new places.
use Rattle.raster_store.specs.Decoded.{entries_of}
use Rattle.raster_store.proofs.Writes.{marks_none}
use Rattle.raster_store.proofs.decoded.DecodedTiles.make_places.Goals as goal

pub returns : goal.returns
returns c = rw (← c.self.view_is) (marks_none (entries_of c.self.inside.kept) c.self.inside.tested.items c.in-Ok.marks.items c.args.count c.in-Ok.ensures)
