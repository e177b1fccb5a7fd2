use Rattle.std.proofs.Common.{◌≡◌, take}
use Rattle.raster_store.proofs.held.indexes_again.Given as goal

abbrev pub invariant-loop-index : goal.invariant-loop-index
invariant-loop-index l = l.fields.items ≡ take l.index-index l.indexes
