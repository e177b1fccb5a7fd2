-- The blocks are as they were, and no tile that is kept is another.
use Rattle.raster_store.proofs.Versions.{decoded_let_go}
use Rattle.raster_store.proofs.store.RasterStore.let_go.Goals as goal

pub invariant_of-self : goal.invariant_of-self
invariant_of-self g c =
    rw c.let_go-2.ensures (record {
      is_held = c.self.invariant.is_held;
      snapshots = c.self.invariant.snapshots;
      decoded = decoded_let_go _ _ _ _ _ _ c.let_go.ensures c.self.invariant.decoded;
    })
