-- The indexes of each coverage add their blocks, so that each block stands there as often as it is listed.
use Rattle.std.proofs.Common.{List, Vec, ap, sym, ◌∙◌, arith}
use Rattle.std.specs.declared.alloc.Global.{Global}
use Rattle.std.proofs.lemmas.List.{take_all}
use Rattle.block_file.proofs.Times.{times_none}
use Rattle.tile_index.specs.declared.index.TileIndex.{TileIndex}
use Rattle.raster_store.specs.Views.{Index, listed_fields, listed_all}
use Rattle.raster_store.proofs.Totals.{listed_all-nil}
use Rattle.metadata.specs.Metadata.{indexes_of}
use Rattle.coverage_server.proofs.OpeningLemmas.{listed_more}
use Rattle.coverage_server.proofs.opening.blocks_of.Goals as goal

pub loop-fields-init : goal.loop-fields-init
loop-fields-init c k = rw c.new-blocks.ensures.items (times_none k ∙ sym (listed_all-nil k))

pub loop-fields-preserved : goal.loop-fields-preserved
loop-fields-preserved c k =
    let new = c.in_ok-push_blocks.ensures k in
    let listed = ap (λ (l : List Index). listed_fields l k) c.deref.ensures.value in
    omega (arith, new, listed, c.loop-fields.invariant k, listed_more c.args.indexes.now c.loop-fields.fields-index c.fields-item.result k c.loop-fields-test.true c.fields-item.is)

pub returns : goal.returns
returns c k =
    c.loop-fields.invariant k
    ∙ ap (λ (l : List (Vec TileIndex Global)). listed_all (indexes_of l) k) (take_all c.loop-fields.fields-index c.args.indexes.now c.loop-fields-test.false)
