-- The field is sound before the write, and what the write leaves is a store again.
use Rattle.std.proofs.Common.{[], arith, refl}
use Rattle.std.proofs.lemmas.List.{get_or_read, get_or_default}
use Rattle.std.specs.Prelude.{slice_get}
use Rattle.std.specs.Vec.{with_item}
use Rattle.arr_core.specs.declared.cell.FieldType.{FieldType}
use Rattle.tile_store.specs.Numbers.{AreNumbers}
use Rattle.raster_store.specs.declared.held.Held.{Held}
use Rattle.raster_store.proofs.Readings.{named_field, patch_field, kind_has}
use Rattle.raster_store.specs.Holding.{snapshots_of}
use Rattle.raster_store.proofs.Snapshots.{passed, passes_wrote, seen}
use Rattle.raster_store.proofs.Versions.{decoded_written}
use Rattle.raster_store.proofs.Contents.{named_within}
use Rattle.raster_store.proofs.Written.{wrote}
use Rattle.raster_store.proofs.store.RasterStore.write_numbers.Goals as goal

pub rest_size-rest-requires-clause-field : goal.rest_size-rest-requires-clause-field
rest_size-rest-requires-clause-field g c =
    let at = rw c.deref.ensures.value at c.place_held-place.ensures.named in
    rw c.deref-2.ensures.value (λ d. (named_field _ _ c.args.name.now c.args.field _ c.self.invariant.is_held
    (c.place_held-place.result, at, get_or_default _ c.place_held-place.result d _ (named_within _ _ _ at)) (patch_field _ c.args.name.now c.args.field c.args.area.now c.args.numbers.now (rw (← c.self.view_is) at c.requires.patch))).indexed)

pub kind_of-requires : goal.kind_of-requires
kind_of-requires g c =
    (named_field _ _ c.args.name.now c.args.field _ c.self.invariant.is_held
    (c.place_held-place.result, rw c.deref.ensures.value at c.place_held-place.ensures.named, c.index_mut-coverage.ensures.value) (patch_field _ c.args.name.now c.args.field c.args.area.now c.args.numbers.now (rw (← c.self.view_is) at c.requires.patch))).described

pub index_mut-index-requires : goal.index_mut-index-requires
index_mut-index-requires g c =
    let at = named_field _ _ c.args.name.now c.args.field _ c.self.invariant.is_held
    (c.place_held-place.result, rw c.deref.ensures.value at c.place_held-place.ensures.named, c.index_mut-coverage.ensures.value) (patch_field _ c.args.name.now c.args.field c.args.area.now c.args.numbers.now (rw (← c.self.view_is) at c.requires.patch)) in
    omega (arith, at.indexed, c.index_mut-coverage.result.now.fields.ok)

pub write_area-written-requires : goal.write_area-written-requires
write_area-written-requires g c =
    let h = c.index_mut-coverage.result.now in
    let at = named_field _ _ c.args.name.now c.args.field _ c.self.invariant.is_held
    (c.place_held-place.result, rw c.deref.ensures.value at c.place_held-place.ensures.named, c.index_mut-coverage.ensures.value) (patch_field _ c.args.name.now c.args.field c.args.area.now c.args.numbers.now (rw (← c.self.view_is) at c.requires.patch)) in
    let box = rw (← c.self.view_is, at.facts.at) at c.requires.patch in
    let fit = kind_has (slice_get h.signature.fields c.args.field) c.kind_of.result (λ (k : FieldType). AreNumbers k c.args.area.now c.args.numbers.now) c.kind_of.ensures box.1 in
    record { patch = record { box = box.0; numbers = fit }; sound = rw (get_or_read h.fields.items c.args.field c.index_mut-index.result.now at.indexed c.index_mut-index.ensures.value []) at.sound }

pub invariant_of-self : goal.invariant_of-self
invariant_of-self g c =
    let e = c.write_area-written.ensures in
    let w = wrote g.B.Blocks.state c.self.inside.blocks c.write_area-written.new.blocks _ c.args.name.now c.place_held-place.result c.args.field c.index_mut-coverage.result.now _ c.index_mut-index.result.now c.write_area-written.new.field _
    (snapshots_of (g.B.Blocks.state c.self.inside.blocks).content c.self.inside.snapshots.items) (snapshots_of (g.B.Blocks.state c.write_area-written.new.blocks).content c.self.inside.snapshots.items)
    c.args.catalogue c.rest_size-rest.result c.self.inside.fetched c.write_area-written.result c.self.invariant.is_held (rw c.deref.ensures.value at c.place_held-place.ensures.named) c.index_mut-coverage.ensures.value (rw (← c.self.view_is) at c.requires.patch)
    c.index_mut-index.ensures.value refl c.kind_of.ensures refl refl c.index-listed.ensures.index (rw c.deref-2.ensures.value at c.rest_size-rest.ensures) (omega (arith, c.free-free.ensures)) e.done e.sound e.frame e.room e.same e.kept e.why e.grows in
    let p = passes_wrote g.B.Blocks.state c.write_area-written.result _ _ _ _ _ _ _ w.done w.same in
    record { is_held = w.is_held; snapshots = passed _ _ _ _ c.self.inside.snapshots.items p c.self.invariant.snapshots; decoded = decoded_written _ _ _ _ _ c.self.inside.coverages.items c.self.inside.snapshots.items c.place_held-place.result _ c.renewed-renewed.ensures p.honest w.kept (seen _ _ _ _ c.self.inside.snapshots.items p c.self.invariant.snapshots).keeps c.self.invariant.decoded }

pub returns : goal.returns
returns g c =
    let h = c.index_mut-coverage.result.now in
    let h' : Held = record { version = c.renewed-renewed.result.0; signature = h.signature; fields = with_item h.fields c.args.field c.write_area-written.new.field } in
    let e = c.write_area-written.ensures in
    let w = wrote g.B.Blocks.state c.self.inside.blocks c.write_area-written.new.blocks _ c.args.name.now c.place_held-place.result c.args.field h h' c.index_mut-index.result.now c.write_area-written.new.field _
    (snapshots_of (g.B.Blocks.state c.self.inside.blocks).content c.self.inside.snapshots.items) (snapshots_of (g.B.Blocks.state c.write_area-written.new.blocks).content c.self.inside.snapshots.items)
    c.args.catalogue c.rest_size-rest.result c.self.inside.fetched c.write_area-written.result c.self.invariant.is_held (rw c.deref.ensures.value at c.place_held-place.ensures.named) c.index_mut-coverage.ensures.value (rw (← c.self.view_is) at c.requires.patch)
    c.index_mut-index.ensures.value refl c.kind_of.ensures refl refl c.index-listed.ensures.index (rw c.deref-2.ensures.value at c.rest_size-rest.ensures) (omega (arith, c.free-free.ensures)) e.done e.sound e.frame e.room e.same e.kept e.why e.grows in
    let p = passes_wrote g.B.Blocks.state c.write_area-written.result _ _ _ _ _ _ _ w.done w.same in
    let stay = seen _ _ _ _ c.self.inside.snapshots.items p c.self.invariant.snapshots in
    rw (← c.self.view_is) (record { done = w.done; same = w.same; why = w.why; intact = w.intact; snapshots = record { told = stay.told; values = stay.values; intact = stay.intact }; grows = w.grows; fetched = refl; told = e.told })
