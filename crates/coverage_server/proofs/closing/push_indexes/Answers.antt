-- Each field adds the bytes of its index.
use Rattle.std.proofs.Common.{◌≡◌, ◌++◌, List, ℕ, Some, refl, sym, ap, ◌∙◌, append-nil, take_all}
use Rattle.std.specs.Prelude.{slice_get}
use Rattle.std.proofs.lemmas.Option.{slice_get_read}
use Rattle.tile_index.specs.Bytes.{index_bytes}
use Rattle.metadata.specs.Metadata.{part_bytes, indexes_bytes}
use Rattle.raster_store.specs.Views.{Index}
use Rattle.coverage_server.proofs.ClosingLemmas.{one_further}
use Rattle.coverage_server.proofs.closing.push_indexes.Goals as goal

pub loop-field-init : goal.loop-field-init
unfolding indexes_bytes
loop-field-init c = sym (append-nil c.args.bytes.now.items)

pub loop-field-preserved : goal.loop-field-preserved
unfolding indexes_bytes
loop-field-preserved c =
    let fields = c.args.fields.now in
    let x = c.field-item.result in
    let before = c.loop-field.bytes.items in
    let here : slice_get fields c.loop-field.field-index ≡ Some x = slice_get_read fields _ c.loop-field.field-index x refl c.loop-field-test.true c.field-item.is in
    let index : c.deref.result.now ≡ index_bytes x = c.deref.ensures.value ∙ c.in_ok-index.ensures ∙ ap index_bytes c.index.ensures.value in
    one_further (λ (i : Index). part_bytes (index_bytes i)) c.args.bytes.now.items before c.push_part.new.bytes.items fields c.loop-field.field-index x here c.loop-field.invariant
    (c.in_ok-push_part.ensures ∙ ap (λ (l : List ℕ). before ++ part_bytes l) index)

pub returns : goal.returns
returns c =
    c.loop-field.invariant
    ∙ ap (λ (l : List Index). c.args.bytes.now.items ++ indexes_bytes l) (take_all c.loop-field.field-index c.args.fields.now c.loop-field-test.false)
