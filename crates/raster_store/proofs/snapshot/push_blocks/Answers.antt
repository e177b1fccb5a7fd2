-- Each index adds the blocks that it lists, each as often as it lists it.
use Rattle.std.proofs.Common.{◌≡◌, ℕ, ◌+◌, List, ap, ◌∙◌, arith}
use Rattle.std.proofs.lemmas.List.{take_all}
use Rattle.block_file.specs.State.{times}
use Rattle.block_file.proofs.Times.{times_append}
use Rattle.tile_store.specs.Listing.{listed}
use Rattle.raster_store.specs.Views.{Index, listed_fields}
use Rattle.raster_store.proofs.Snapshots.{times_listed, no_field_lists, one_field_more}
use Rattle.raster_store.proofs.snapshot.push_blocks.Goals as goal

pub loop-field-init : goal.loop-field-init
loop-field-init c k = omega (arith, no_field_lists k)

pub loop-field-preserved : goal.loop-field-preserved
loop-field-preserved c k =
    let new = ap (λ (l : List ℕ). times l k) c.in_ok-push_blocks.ensures ∙ times_append c.loop-field.blocks.items _ k in
    let more = times_listed c.index.result.now k in
    let value : listed c.index.result.now k ≡ listed c.field-item.result k = ap (λ (i : Index). listed i k) c.index.ensures.value in
    omega (arith, new, more, value, c.loop-field.invariant k, one_field_more k c.args.fields.now c.loop-field.field-index c.field-item.result c.loop-field-test.true (c.field-item.is))

pub returns : goal.returns
returns c k =
    c.loop-field.invariant k
    ∙ ap (λ (l : List Index). times c.args.blocks.now.items k + listed_fields l k) (take_all c.loop-field.field-index c.args.fields.now c.loop-field-test.false)
