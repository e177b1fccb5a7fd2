-- Once a closing has been written, the disk below lists the coverages, and below sound ones holds their store.
use Rattle.std.proofs.Common.{sym, subst}
use Rattle.std.specs.Prelude.{IsTrue}
use Rattle.block_file.specs.View.{BlockFileView, state_of}
use Rattle.catalogue.specs.Signatures.{IsCatalogue}
use Rattle.raster_store.specs.Views.{AreIntact}
use Rattle.coverage_server.proofs.ClosingLemmas.{lists, holds, header_unlisted}
use Rattle.coverage_server.proofs.coverages.Coverages.into_disk.Goals as goal

pub returns-clause-closed : goal.returns-clause-closed
returns-clause-closed g c =
    let is = c.into_blocks.ensures.blocks in
    let store = c.self.inside.cells.coverages in
    let indexes = c.self.inside.cells.indexes in
    let catalogue = subst IsCatalogue c.self.invariant.signatures c.len-catalogue.ensures.catalogue in
    let header = header_unlisted indexes c.self.inside.cells.snapshots (sym (c.self.invariant.counted 0)) in
    rw (c.into_disk.ensures.content, c.into_file.ensures, ← c.self.view_is)
    (record {
      lists = λ written honest.
          lists (state_of c.into_blocks.result) store indexes c.into_blocks.ensures.listed
          (subst (λ (b : BlockFileView). IsTrue b.honest) (sym is) honest) catalogue c.self.invariant.once header written;
      held = λ written sound.
          holds (state_of c.into_blocks.result) store indexes c.into_blocks.ensures.listed
          (subst (λ (b : BlockFileView). IsTrue b.honest) (sym is) sound.honest) catalogue c.self.invariant.once header written
          (subst (λ (b : BlockFileView). AreIntact b.content store indexes) (sym is) sound.intact);
      intact = λ sound. subst (λ (b : BlockFileView). AreIntact b.content store indexes) (sym is) sound.intact;
    })
