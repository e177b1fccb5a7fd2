-- The new coverage is whole, its name is new, and its blocks are in use as often as they are listed.
use Rattle.std.proofs.Common.{arith, ap, List}
use Rattle.raster_store.specs.declared.snapshot.Snapshot.{Snapshot}
use Rattle.raster_store.specs.Calls.{MayAttach}
use Rattle.raster_store.specs.Holding.{indexes_of, listed_held}
use Rattle.raster_store.proofs.Snapshots.{none_seen, listed_held-nil}
use Rattle.raster_store.proofs.Stored.{store_push}
use Rattle.raster_store.proofs.store.RasterStore.attach.Goals as goal

pub invariant_of-self-2 : goal.invariant_of-self-2
invariant_of-self-2 g c =
    let is = c.in_ok-held.ensures in
    let may : MayAttach (g.B.Blocks.state c.self.inside.blocks) (indexes_of c.self.inside.coverages.items) c.in_ok-held.held.fields.items = rw is.fields (rw (← c.self.view_is) at c.requires.blocks) in
    let none = none_seen _ c.self.inside.snapshots.items (rw (← c.self.view_is) at c.requires.unheld) in
    rw c.in_ok-push.ensures.items (store_push _ c.self.inside.coverages.items c.self.inside.snapshots.items c.in_ok-held.held _ _ _ c.self.invariant.is_held is.whole
    (rw is.signature (rw (← c.self.view_is) at c.requires.name)) may (rw is.version c.renewed-renewed.ensures) c.self.invariant.decoded c.self.invariant.snapshots
    (λ k. omega (arith, may.counted k, ap (λ (xs : List Snapshot). listed_held xs k) none, listed_held-nil k)))
