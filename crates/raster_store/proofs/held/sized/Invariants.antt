use Rattle.std.proofs.Common.{◌≡◌}
use Rattle.raster_store.proofs.held.sized.Given as goal

abbrev pub invariant-loop-index : goal.invariant-loop-index
invariant-loop-index l = l.fields.items ≡ l.yielded
