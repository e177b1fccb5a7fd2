-- The sizes before and behind the field and the coverage are all but that of the index.
use Rattle.std.proofs.Common.{arith, ◌≡◌, ◌+◌, ◌-◌, ◌^◌, ◌∙◌, min, get_or, take, drop, sum_by}
use Rattle.std.proofs.lemmas.List.{take_rest, get_or_default}
use Rattle.raster_store.specs.Views.{fields_size}
use Rattle.raster_store.specs.Holding.{indexes_of}
use Rattle.raster_store.proofs.Totals.{size_around}
use Rattle.raster_store.proofs.sizes.rest_size.Goals as goal

pub returns : goal.returns
returns c =
    let held = c.args.held.now in
    let i = c.args.place in
    let j = c.args.field in
    let x = get_or held i c.index-held-place.result in
    let v = c.deref-fields.ensures.value in
    let before : c.fields_size.result ≡ min (2 ^ 64 - 1) (fields_size (take j x.fields.items)) = rw v at c.fields_size.ensures in
    let after : c.fields_size-2.result ≡ min (2 ^ 64 - 1) (fields_size (drop (j + 1) x.fields.items)) = rw (take_rest c.deref-fields.result.now (j + 1), v) at c.fields_size-2.ensures in
    let last : c.held_size-2.result ≡ min (2 ^ 64 - 1) (sum_by fields_size (indexes_of (drop (i + 1) held))) = rw (take_rest held (i + 1)) at c.held_size-2.ensures in
    λ h rest was is.
    let same : h ≡ x = was ∙ get_or_default held i h c.index-held-place.result c.requires.place in
    let all = size_around c.args.catalogue held i j x c.requires.place (get_or_default held i c.index-held-place.result x c.requires.place) (c.requires.field c.index-held-place.result) in
    let rest_is = rw same at is in
    omega (arith, before, after, c.held_size.ensures, last, c.saturating_add-beside.ensures, c.saturating_add-others.ensures, c.saturating_add.ensures, c.saturating_add-2.ensures, c.saturating_add-3.ensures, rest_is, all)
