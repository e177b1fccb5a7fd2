-- The other coverages stay, and the blocks of the one are given back.
use Rattle.std.proofs.Common.{refl, sym}
use Rattle.raster_store.proofs.Snapshots.{passed, passes_recounts}
use Rattle.raster_store.proofs.Contents.{intact-remove, deleted_named, deleted_none}
use Rattle.raster_store.proofs.Writes.{held_remove}
use Rattle.raster_store.proofs.Versions.{decoded_read, decoded_removed}
use Rattle.raster_store.proofs.Readings.{known}
use Rattle.raster_store.proofs.store.RasterStore.remove.Goals as goal

pub give_back_fields-requires : goal.give_back_fields-requires
give_back_fields-requires g c =
    rw c.deref-in-Some.ensures.value (known _ _ c.in-Some.place _ c.self.invariant.is_held (rw c.deref.ensures.value at c.in-Some.ensures.within) c.remove-held.ensures.value).counted

pub invariant_of-self : goal.invariant_of-self
invariant_of-self g c =
    let within = rw c.deref.ensures.value at c.in-Some.ensures.within in
    let given = rw c.deref-in-Some.ensures.value at c.give_back_fields.ensures in
    let gone = held_remove _ _ _ c.in-Some.place _ c.self.invariant.is_held within c.remove-held.ensures.value given in
    record {
      is_held = rw c.remove-held.ensures.items gone.0;
      snapshots = rw c.remove-held.ensures.items (passed _ _ _ _ c.self.inside.snapshots.items (passes_recounts _ _ _ _ gone.1) c.self.invariant.snapshots);
      decoded = rw c.remove-held.ensures.items (decoded_read _ _ _ _ _ _ given.content given.honest (decoded_removed _ _ _ c.self.inside.coverages.items _ c.in-Some.place c.self.invariant.decoded));
    }

pub returns-in-Some : goal.returns-in-Some
returns-in-Some g c =
    let content = (g.B.Blocks.state c.self.inside.blocks).content in
    let held = c.self.inside.coverages.items in
    let place = c.in-Some.place in
    let given = rw c.deref-in-Some.ensures.value at c.give_back_fields.ensures in
    let gone = deleted_named content c.args.name.now held place (rw c.deref.ensures.value at c.in-Some.ensures.some) in
    rw (← c.self.view_is, c.remove-held.ensures.items) (record {
      coverages = rw given.content gone.0;
      indexes = gone.1;
      snapshots = rw given.content refl;
      recounts = (held_remove _ _ held place _ c.self.invariant.is_held (rw c.deref.ensures.value at c.in-Some.ensures.within) c.remove-held.ensures.value given).1;
      intact = rw given.content (intact-remove content held place);
      fetched = refl;
    })

pub returns-in-None : goal.returns-in-None
returns-in-None g c =
    let none = deleted_none (g.B.Blocks.state c.self.inside.blocks).content c.args.name.now c.self.inside.coverages.items (rw c.deref.ensures.value at c.in-None.ensures.none) in
    rw (← c.self.view_is) (record { coverages = sym none.0; indexes = sym none.1; snapshots = refl; recounts = record { uses = λ k. refl; content = refl; synced = refl; size = refl; failures = refl; overreads = refl; honest = refl }; intact = λ intact. intact; fetched = refl })
