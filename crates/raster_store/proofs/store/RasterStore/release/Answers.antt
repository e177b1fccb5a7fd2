-- The coverages that were held for the job are given up, and the others stay.
use Rattle.std.proofs.Common.{refl, sym, arith}
use Rattle.raster_store.proofs.Snapshots.{snapshot_at, snapshots_remove, held_recounted, held_within, held_there, unheld, listed_held-remove, released}
use Rattle.raster_store.proofs.Versions.{decoded_read, decoded_released}
use Rattle.raster_store.proofs.store.RasterStore.release.Goals as goal

pub remove-snapshot-requires : goal.remove-snapshot-requires
remove-snapshot-requires g c = omega (arith, held_within c.args.job c.self.inside.snapshots.items c.in-Some.place (rw c.deref.ensures.value at c.in-Some.ensures.some), c.self.inside.snapshots.ok)

pub release_all-requires : goal.release_all-requires
release_all-requires g c =
    let at = rw c.deref.ensures.value at c.in-Some.ensures.some in
    rw c.deref-in-Some.ensures.value (snapshot_at _ _ c.self.inside.snapshots.items c.in-Some.place _ c.self.invariant.snapshots (held_within _ _ _ at) c.remove-snapshot.ensures.value).counted

pub invariant_of-self : goal.invariant_of-self
invariant_of-self g c =
    let at = rw c.deref.ensures.value at c.in-Some.ensures.some in
    let xs = c.self.inside.snapshots.items in
    let within = held_within _ _ c.in-Some.place at in
    let given = rw c.deref-in-Some.ensures.value at c.release_all.ensures in
    let value = c.remove-snapshot.ensures.value in
    rw c.remove-snapshot.ensures.items (record {
      is_held = held_recounted _ _ _ c.self.invariant.is_held (λ k. omega (arith, c.self.invariant.snapshots.counted k, given.uses k, listed_held-remove xs c.in-Some.place _ k within value)) given.content given.honest;
      snapshots = snapshots_remove _ _ _ xs c.in-Some.place _ c.self.invariant.snapshots within value given;
      decoded = decoded_read _ _ _ _ _ _ given.content given.honest (decoded_released _ _ _ _ xs c.in-Some.place c.self.invariant.decoded);
    })

pub returns-in-Some : goal.returns-in-Some
returns-in-Some g c =
    let at = rw c.deref.ensures.value at c.in-Some.ensures.some in
    let xs = c.self.inside.snapshots.items in
    let given = rw c.deref-in-Some.ensures.value at c.release_all.ensures in
    let value = c.remove-snapshot.ensures.value in
    rw (← c.self.view_is, c.remove-snapshot.ensures.items) (record {
      snapshots = rw given.content (held_there _ c.args.job xs c.in-Some.place at).1;
      same = record { coverages = rw given.content refl; indexes = refl; fetched = refl };
      recounts = released _ _ xs c.in-Some.place _ (held_within _ _ _ at) value given;
    })

pub returns-in-None : goal.returns-in-None
returns-in-None g c =
    let none = rw c.deref.ensures.value at c.in-None.ensures.none in
    let same = unheld (g.B.Blocks.state c.self.inside.blocks).content c.args.job c.self.inside.snapshots.items none in
    rw (← c.self.view_is) (record {
      snapshots = sym same.1;
      same = record { coverages = refl; indexes = refl; fetched = refl };
      recounts = record { uses = λ k. refl; content = refl; synced = refl; size = refl; failures = refl; overreads = refl; honest = refl };
    })
