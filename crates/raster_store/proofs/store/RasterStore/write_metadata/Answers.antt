-- A chain goes into blocks that no coverage lists.
use Rattle.std.proofs.Common.{arith}
use Rattle.raster_store.specs.Holding.{snapshots_of}
use Rattle.raster_store.proofs.Snapshots.{passed, passes_none, seen}
use Rattle.raster_store.proofs.Writes.{keeps_all, same_store, held_kept}
use Rattle.raster_store.proofs.Tiles.{tiles_kept}
use Rattle.raster_store.proofs.Versions.{decoded_moved}
use Rattle.raster_store.proofs.store.RasterStore.write_metadata.Goals as goal

pub returns-clause-frame : goal.returns-clause-frame
returns-clause-frame g c =
    let held = c.self.inside.coverages.items in
    let kept = keeps_all _ _ held c.self.invariant.is_held c.write_chain.ensures.frame in
    rw (← c.self.view_is) (record { same = (same_store g.B.Blocks.state c.self.inside.blocks c.write_chain.new.file held _ _ c.self.inside.fetched kept).0; moves = c.write_chain.ensures.frame; tiles = λ sure. tiles_kept (g.B.Blocks.state c.self.inside.blocks).content (g.B.Blocks.state c.write_chain.new.file).content held (kept sure) })

pub returns-clause-intact : goal.returns-clause-intact
returns-clause-intact g c =
    let held = c.self.inside.coverages.items in
    let kept = keeps_all _ _ held c.self.invariant.is_held c.write_chain.ensures.frame in
    rw (← c.self.view_is) (same_store g.B.Blocks.state c.self.inside.blocks c.write_chain.new.file held (snapshots_of (g.B.Blocks.state c.self.inside.blocks).content c.self.inside.snapshots.items) (snapshots_of (g.B.Blocks.state c.write_chain.new.file).content c.self.inside.snapshots.items) c.self.inside.fetched kept).1

pub returns-clause-snapshots : goal.returns-clause-snapshots
returns-clause-snapshots g c =
    let stay = seen _ _ _ _ c.self.inside.snapshots.items (passes_none _ _ _ c.write_chain.ensures.frame) c.self.invariant.snapshots in
    rw (← c.self.view_is) (record { told = stay.told; values = stay.values; intact = stay.intact })

pub invariant_of-self : goal.invariant_of-self
invariant_of-self g c =
    let held = c.self.inside.coverages.items in
    let frame = c.write_chain.ensures.frame in
    record {
      is_held = held_kept _ _ held c.self.invariant.is_held (λ k. omega (arith, frame.uses k)) frame.honest (keeps_all _ _ held c.self.invariant.is_held frame);
      snapshots = passed _ _ _ _ c.self.inside.snapshots.items (passes_none _ _ _ frame) c.self.invariant.snapshots;
      decoded = decoded_moved _ _ _ _ held c.self.inside.snapshots.items frame.honest (keeps_all _ _ held c.self.invariant.is_held frame) (seen _ _ _ _ c.self.inside.snapshots.items (passes_none _ _ _ frame) c.self.invariant.snapshots).keeps c.self.invariant.decoded;
    }
