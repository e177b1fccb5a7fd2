use Rattle.std.proofs.Common.{take}
use Rattle.raster_store.specs.Copying.{AreCopiesOf}
use Rattle.raster_store.proofs.snapshot.copies_of.Given as goal

abbrev pub invariant-loop-name : goal.invariant-loop-name
invariant-loop-name l = AreCopiesOf l.held (take l.name-index l.names) l.copies.items
