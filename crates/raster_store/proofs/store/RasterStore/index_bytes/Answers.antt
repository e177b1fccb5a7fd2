-- The field that is found has the index whose bytes are written.
use Rattle.std.proofs.Common.{refl, arith}
use Rattle.std.proofs.lemmas.Option.{slice_get_read}
use Rattle.raster_store.proofs.Readings.{named_field, indexes_at}
use Rattle.raster_store.proofs.Contents.{found_named, named_within}
use Rattle.raster_store.proofs.store.RasterStore.index_bytes.Goals as goal

pub index-index-requires : goal.index-index-requires
index-index-requires g c =
    let at = named_field _ _ c.args.name.now c.args.field _ c.self.invariant.is_held (rw c.deref.ensures.value at c.named-coverage.ensures) (rw (← c.self.view_is) at c.requires.field) in
    omega (arith, at.indexed, c.named-coverage.result.now.fields.ok)

pub returns : goal.returns
returns g c =
    let held = c.self.inside.coverages.items in
    let h = c.named-coverage.result.now in
    let is = rw c.deref.ensures.value at c.named-coverage.ensures in
    let at = named_field _ _ c.args.name.now c.args.field h c.self.invariant.is_held is (rw (← c.self.view_is) at c.requires.field) in
    let index = (found_named (g.B.Blocks.state c.self.inside.blocks).content c.args.name.now c.args.field held is.0 is.1).1 in
    let there = slice_get_read h.fields.items _ c.args.field c.index-index.result.now refl at.indexed c.index-index.ensures in
    rw (← c.self.view_is, index, indexes_at held is.0 h (named_within c.args.name.now held is.0 is.1) is.2, there) (record { bytes = rw c.index.ensures.value at c.to_bytes.ensures })
