-- Each index adds the blocks that it lists, each as often as it lists it.
use Rattle.std.proofs.Common.{ℕ, ◌+◌, List, ap, ◌∙◌, arith}
use Rattle.std.proofs.lemmas.List.{take_all}
use Rattle.block_file.specs.State.{times}
use Rattle.block_file.proofs.Times.{times_append}
use Rattle.raster_store.specs.Views.{Index, listed_fields}
use Rattle.raster_store.proofs.Snapshots.{no_field_lists, one_field_more, times_listed}
use Rattle.coverage_server.proofs.opening.push_blocks.Goals as goal

pub loop-index-init : goal.loop-index-init
loop-index-init c k = omega (arith, no_field_lists k)

pub loop-index-preserved : goal.loop-index-preserved
loop-index-preserved c k =
    let new = ap (λ (l : List ℕ). times l k) c.in_ok-push_blocks.ensures ∙ times_append c.loop-index.blocks.items _ k in
    let listed = times_listed c.index-item.result k in
    omega (arith, new, listed, c.loop-index.invariant k, one_field_more k c.args.fields.now c.loop-index.index-index c.index-item.result c.loop-index-test.true (c.index-item.is))

pub returns : goal.returns
returns c k =
    c.loop-index.invariant k
    ∙ ap (λ (l : List Index). times c.args.blocks.now.items k + listed_fields l k) (take_all c.loop-index.index-index c.args.fields.now c.loop-index-test.false)
