-- The place of the name among what the number reads.
use Rattle.raster_store.proofs.Contents.{found_none}
use Rattle.raster_store.proofs.Readings.{place_of_name}
use Rattle.raster_store.proofs.ReadFor.{reads_known}
use Rattle.raster_store.proofs.store.RasterStore.place_at.Goals as goal

pub place_of-requires : goal.place_of-requires
place_of-requires g c =
    let told = rw (c.deref.ensures.value, c.deref-2.ensures.value) at c.coverages_for.ensures in
    let r = reads_known g.B.Blocks.state c.self.inside.blocks c.self.inside.fetched _ _ c.self.inside.coverages.items c.self.inside.snapshots.items c.args.job _ c.self.invariant told (rw (← c.self.view_is) at c.requires) in
    r.is_held.apart

pub returns-in-Some-clause-some : goal.returns-in-Some-clause-some
returns-in-Some-clause-some g c =
    let told = rw (c.deref.ensures.value, c.deref-2.ensures.value) at c.coverages_for.ensures in
    let r = reads_known g.B.Blocks.state c.self.inside.blocks c.self.inside.fetched _ _ c.self.inside.coverages.items c.self.inside.snapshots.items c.args.job _ c.self.invariant told (rw (← c.self.view_is) at c.requires) in
    rw (← c.self.view_is, r.found) (place_of_name _ _ c.args.name.now c.in-Some.found c.in-Some.ensures.some)

pub returns-in-None-clause-none : goal.returns-in-None-clause-none
returns-in-None-clause-none g c =
    let told = rw (c.deref.ensures.value, c.deref-2.ensures.value) at c.coverages_for.ensures in
    let r = reads_known g.B.Blocks.state c.self.inside.blocks c.self.inside.fetched _ _ c.self.inside.coverages.items c.self.inside.snapshots.items c.args.job _ c.self.invariant told (rw (← c.self.view_is) at c.requires) in
    rw (← c.self.view_is, r.found) (found_none _ c.args.name.now _ c.in-None.ensures.none)
