-- A store without coverages is held.
use Rattle.std.proofs.Common.{arith}
use Rattle.raster_store.proofs.Totals.{listed_all-nil}
use Rattle.raster_store.proofs.Snapshots.{no_snapshots}
use Rattle.raster_store.proofs.Writes.{held_none}
use Rattle.raster_store.proofs.Versions.{decoded_none}
use Rattle.raster_store.proofs.store.RasterStore.new.Goals as goal

pub invariant_of-result : goal.invariant_of-result
invariant_of-result g c = record { is_held = rw c.new.ensures.items (held_none _); snapshots = rw (c.new.ensures.items, c.new-3.ensures.items) (no_snapshots _ _ (λ k. omega (arith, listed_all-nil k))); decoded = rw (c.new.ensures.items, c.new-3.ensures.items) (decoded_none _ _ c.new-decoded.result c.new-decoded.ensures) }
