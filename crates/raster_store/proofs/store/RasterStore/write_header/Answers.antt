-- A write of the header leaves all that the coverages list as it was.
use Rattle.std.proofs.Common.{refl}
use Rattle.raster_store.proofs.Versions.{decoded_moved}
use Rattle.raster_store.proofs.Writes.{held_kept, keeps_header, same_store}
use Rattle.raster_store.proofs.Snapshots.{passed, passes_header, seen}
use Rattle.raster_store.proofs.store.RasterStore.write_header.Goals as goal

pub invariant_of-self : goal.invariant_of-self
invariant_of-self g c =
    let held = c.self.inside.coverages.items in
    let only = c.write_header.ensures.frame in
    record {
      is_held = held_kept _ _ held c.self.invariant.is_held (λ k. rw only.uses refl) only.honest (keeps_header _ _ held c.self.invariant.is_held only);
      snapshots = passed _ _ _ _ c.self.inside.snapshots.items (passes_header _ _ _ only) c.self.invariant.snapshots;
      decoded = decoded_moved _ _ _ _ held c.self.inside.snapshots.items only.honest (keeps_header _ _ held c.self.invariant.is_held only) (seen _ _ _ _ c.self.inside.snapshots.items (passes_header _ _ _ only) c.self.invariant.snapshots).keeps c.self.invariant.decoded;
    }

pub returns : goal.returns
returns g c =
    let held = c.self.inside.coverages.items in
    let e = c.write_header.ensures in
    let all = same_store g.B.Blocks.state c.self.inside.blocks c.write_header.new.self held _ _ c.self.inside.fetched (keeps_header _ _ held c.self.invariant.is_held e.frame) in
    let stay = seen _ _ _ _ c.self.inside.snapshots.items (passes_header _ _ _ e.frame) c.self.invariant.snapshots in
    rw (← c.self.view_is) (record { written = e.written; frame = e.frame; same = all.0; intact = all.1; snapshots = record { told = stay.told; values = stay.values; intact = stay.intact }; told = e.told })
