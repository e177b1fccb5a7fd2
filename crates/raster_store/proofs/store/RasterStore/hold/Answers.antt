-- What is held are coverages of the store, and their blocks are in use so often more.
use Rattle.std.proofs.Common.{refl, arith}
use Rattle.std.proofs.lemmas.List.{map_push}
use Rattle.raster_store.specs.Holding.{coverages_of, indexes_of, snapshot_of}
use Rattle.raster_store.proofs.Copied.{copied_used, are_copied, copied_intact, copied_held, copied_named, copied_once}
use Rattle.raster_store.proofs.Snapshots.{snapshots_push, held_recounted, names_there, counted_as}
use Rattle.raster_store.proofs.Versions.{decoded_read, decoded_held}
use Rattle.raster_store.proofs.store.RasterStore.hold.Goals as goal

pub copies_of-requires : goal.copies_of-requires
copies_of-requires g c = rw c.deref.ensures.value (record { apart = c.self.invariant.is_held.apart; names = names_there _ c.args.names.now _ (rw (← c.self.view_is) at c.requires.names) })

pub hold-requires : goal.hold-requires
hold-requires g c = λ k some.
    let picked = rw c.deref.ensures.value at c.in_ok-coverages.ensures in
    let listed = rw c.deref-2.ensures.value at (c.in_ok-blocks.ensures k) in
    let used = copied_used _ _ c.self.invariant.is_held c.in_ok-coverages.coverages.items k picked.from (omega (arith, listed, rw c.deref-3.ensures.value at some)) in
    omega (arith, used, c.self.invariant.is_held.counted k)

pub invariant_of-self-2 : goal.invariant_of-self-2
invariant_of-self-2 g c =
    let picked = rw c.deref.ensures.value at c.in_ok-coverages.ensures in
    let counts = counted_as _ _ _ _ (rw c.deref-2.ensures.value at c.in_ok-blocks.ensures) (rw c.deref-3.ensures.value at c.in_ok-hold.ensures.held) in
    rw (c.in-Ok.ensures.items, c.in_ok-reserve.ensures.items) (record {
      is_held = held_recounted _ _ _ c.self.invariant.is_held (λ k. omega (arith, c.self.invariant.is_held.counted k, counts.uses k)) counts.content counts.honest;
      snapshots = snapshots_push _ _ _ _ _ c.self.invariant.snapshots (copied_held _ _ c.self.invariant.is_held _ c.args.names.now _ picked counts) counts;
      decoded = decoded_read _ _ _ _ _ _ counts.content counts.honest (decoded_held _ _ _ _ _ _ picked.from c.self.invariant.decoded);
    })

pub returns-clause-held : goal.returns-clause-held
returns-clause-held g c =
    let s = g.B.Blocks.state c.self.inside.blocks in
    let copies = c.in_ok-coverages.coverages.items in
    let picked = rw c.deref.ensures.value at c.in_ok-coverages.ensures in
    let counts = counted_as _ _ _ _ (rw c.deref-2.ensures.value at c.in_ok-blocks.ensures) (rw c.deref-3.ensures.value at c.in_ok-hold.ensures.held) in
    rw (← c.self.view_is, c.in-Ok.ensures.items, c.in_ok-reserve.ensures.items) (record {
      snapshot = record { job = c.args.job; coverages = coverages_of s.content copies; indexes = indexes_of copies };
      job = refl;
      is = record { named = copied_named _ _ c.self.invariant.is_held c.args.names.now copies picked; copied = are_copied _ _ c.self.invariant.is_held copies picked.from; once = copied_once _ _ c.self.invariant.is_held c.args.names.now copies picked };
      intact = copied_intact _ _ c.self.invariant.is_held copies picked.from;
      snapshots = rw counts.content (map_push (snapshot_of s.content) c.self.inside.snapshots.items _);
      same = record { coverages = rw counts.content refl; indexes = refl; fetched = refl };
      recounts = counts;
    })
