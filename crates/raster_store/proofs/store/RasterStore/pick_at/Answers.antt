-- The coverage at the place is one that the number reads, and cells of its tile are picked.
use Rattle.std.proofs.Common.{arith}
use Rattle.std.proofs.lemmas.Result.{err_from_is_err_and}
use Rattle.raster_store.proofs.Readings.{place_within}
use Rattle.raster_store.proofs.ReadFor.{reads_for, reads_tile}
use Rattle.raster_store.proofs.Stored.{store_fetched}
use Rattle.raster_store.proofs.store.RasterStore.pick_at.Goals as goal

pub bounds-coverages-at : goal.bounds-coverages-at
bounds-coverages-at g c =
    let told = rw (c.deref.ensures.value, c.deref-2.ensures.value) at c.coverages_for-coverages.ensures in
    let r = reads_for g.B.Blocks.state c.self.inside.blocks c.self.inside.fetched _ _ c.self.inside.coverages.items c.self.inside.snapshots.items c.args.job _ c.self.invariant told _ (rw (← c.self.view_is) at c.requires.tile) in
    let within = place_within _ _ c.args.at (rw r.found at (rw (← c.self.view_is) at c.requires.tile)) in omega (arith, within)

pub offset_bounds-coverages-at : goal.offset_bounds-coverages-at
offset_bounds-coverages-at g c =
    let told = rw (c.deref.ensures.value, c.deref-2.ensures.value) at c.coverages_for-coverages.ensures in
    let r = reads_for g.B.Blocks.state c.self.inside.blocks c.self.inside.fetched _ _ c.self.inside.coverages.items c.self.inside.snapshots.items c.args.job _ c.self.invariant told _ (rw (← c.self.view_is) at c.requires.tile) in
    let within = place_within _ _ c.args.at (rw r.found at (rw (← c.self.view_is) at c.requires.tile)) in omega (arith, within, c.coverages_for-coverages.type_inv.1)

pub pick_of-requires : goal.pick_of-requires
pick_of-requires g c =
    let told = rw (c.deref.ensures.value, c.deref-2.ensures.value) at c.coverages_for-coverages.ensures in
    let t = reads_tile g.B.Blocks.state c.self.inside.blocks c.self.inside.fetched _ _ c.self.inside.coverages.items c.self.inside.snapshots.items c.args.job _ c.self.invariant told c.args.at c.index-coverages-at.result (rw (← c.self.view_is) at c.requires.tile) c.index-coverages-at.is in
    let one = t.alone in
    record { held = one.is_held; tile = one.tile; ranks = one.ranks c.args.ranks.now (rw t.found at (rw (← c.self.view_is) at c.requires.ranks)); kept = t.serves.kept }

pub invariant_of-self : goal.invariant_of-self
invariant_of-self g c =
    let told = rw (c.deref.ensures.value, c.deref-2.ensures.value) at c.coverages_for-coverages.ensures in
    let t = reads_tile g.B.Blocks.state c.self.inside.blocks c.self.inside.fetched _ _ c.self.inside.coverages.items c.self.inside.snapshots.items c.args.job _ c.self.invariant told c.args.at c.index-coverages-at.result (rw (← c.self.view_is) at c.requires.tile) c.index-coverages-at.is in
    store_fetched _ _ _ _ _ _ _ _ c.self.invariant t.serves c.pick_of.ensures.kept c.pick_of.ensures.frame

pub invariant_of-self-2 : goal.invariant_of-self-2
invariant_of-self-2 g c =
    let told = rw (c.deref.ensures.value, c.deref-2.ensures.value) at c.coverages_for-coverages.ensures in
    let t = reads_tile g.B.Blocks.state c.self.inside.blocks c.self.inside.fetched _ _ c.self.inside.coverages.items c.self.inside.snapshots.items c.args.job _ c.self.invariant told c.args.at c.index-coverages-at.result (rw (← c.self.view_is) at c.requires.tile) c.index-coverages-at.is in
    store_fetched _ _ _ _ _ _ _ _ c.self.invariant t.serves c.pick_of.ensures.kept c.pick_of.ensures.frame

pub returns-in_err-pick_of-clause-why : goal.returns-in_err-pick_of-clause-why
returns-in_err-pick_of-clause-why g c =
    let told = rw (c.deref.ensures.value, c.deref-2.ensures.value) at c.coverages_for-coverages.ensures in
    let t = reads_tile g.B.Blocks.state c.self.inside.blocks c.self.inside.fetched _ _ c.self.inside.coverages.items c.self.inside.snapshots.items c.args.job _ c.self.invariant told c.args.at c.index-coverages-at.result (rw (← c.self.view_is) at c.requires.tile) c.index-coverages-at.is in
    let p = err_from_is_err_and c.from_residual.result c.from_residual.ensures.1 in
    let why = c.in_err-pick_of.ensures.why in
    rw (← c.self.view_is, p.1, p.2, t.found) (record {
      for_damage = λ err sure spelled. why.for_damage err sure (t.alone.spelled spelled);
      for_room = why.for_room;
    })

pub returns-clause-read : goal.returns-clause-read
returns-clause-read g c =
    let told = rw (c.deref.ensures.value, c.deref-2.ensures.value) at c.coverages_for-coverages.ensures in
    let t = reads_tile g.B.Blocks.state c.self.inside.blocks c.self.inside.fetched _ _ c.self.inside.coverages.items c.self.inside.snapshots.items c.args.job _ c.self.invariant told c.args.at c.index-coverages-at.result (rw (← c.self.view_is) at c.requires.tile) c.index-coverages-at.is in
    rw (← c.self.view_is, t.found) (t.alone.picked c.args.ranks.now _ c.in_ok-pick_of.ensures.read)
