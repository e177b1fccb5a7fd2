-- The signature of the coverage with the name among what the number reads.
use Rattle.std.proofs.Common.{Some, ap, refl, sym}
use Rattle.raster_store.specs.declared.held.Held.{Held}
use Rattle.raster_store.proofs.Contents.{found_named, found_none}
use Rattle.raster_store.proofs.Readings.{known}
use Rattle.raster_store.proofs.ReadFor.{reads_known}
use Rattle.raster_store.proofs.store.RasterStore.signature_at.Goals as goal

pub place_of-requires : goal.place_of-requires
place_of-requires g c =
    let told = rw (c.deref.ensures.value, c.deref-2.ensures.value) at c.coverages_for-coverages.ensures in
    let r = reads_known g.B.Blocks.state c.self.inside.blocks c.self.inside.fetched _ _ c.self.inside.coverages.items c.self.inside.snapshots.items c.args.job _ c.self.invariant told (rw (← c.self.view_is) at c.requires) in
    r.is_held.apart

pub returns-in-Some : goal.returns-in-Some
returns-in-Some g c =
    let told = rw (c.deref.ensures.value, c.deref-2.ensures.value) at c.coverages_for-coverages.ensures in
    let r = reads_known g.B.Blocks.state c.self.inside.blocks c.self.inside.fetched _ _ c.self.inside.coverages.items c.self.inside.snapshots.items c.args.job _ c.self.invariant told (rw (← c.self.view_is) at c.requires) in
    let k = known _ _ c.in-Some.place _ r.is_held c.in-Some.ensures.within c.index-coverages-place.is in
    rw (← c.self.view_is, r.found, (found_named (g.B.Blocks.state c.self.inside.blocks).content c.args.name.now 0 _ c.in-Some.place c.in-Some.ensures.some).0, k.at) (ap (λ (h : Held). Some h.signature) (sym c.index-coverages-place.is))

pub returns-in-None : goal.returns-in-None
returns-in-None g c =
    let told = rw (c.deref.ensures.value, c.deref-2.ensures.value) at c.coverages_for-coverages.ensures in
    let r = reads_known g.B.Blocks.state c.self.inside.blocks c.self.inside.fetched _ _ c.self.inside.coverages.items c.self.inside.snapshots.items c.args.job _ c.self.invariant told (rw (← c.self.view_is) at c.requires) in
    rw (← c.self.view_is, r.found, found_none (g.B.Blocks.state c.self.inside.blocks).content c.args.name.now _ c.in-None.ensures.none) refl
