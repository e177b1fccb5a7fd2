-- The mark at the place is the tile's.
use Rattle.std.proofs.Common.{◌≡◌, ◌<◌, ◌∙◌, Option, Some, true, get_or, length, sym, ap, arith}
use Rattle.raster_store.specs.declared.reading.TileKey.{TileKey}
use Rattle.raster_store.proofs.Writes.{is_at, mark_found}
use Rattle.raster_store.proofs.decoded.DecodedTiles.is_tested.Goals as goal

pub returns-in-Some : goal.returns-in-Some
returns-in-Some c = λ h.
    let marks = c.self.inside.tested.items in
    let place = c.place_of-place.result in
    let key = c.in-Some.key in
    let within : place < length marks = omega (arith, c.len.ensures) in
    let there : get_or marks place (Some key) ≡ Some key = ap (λ (d : Option TileKey). get_or marks place d) (sym c.in-Some.is) ∙ sym c.index.ensures ∙ c.in-Some.is in
    let same : is_at key c.args.at ≡ true = sym c.eq.ensures ∙ h in
    rw (← c.self.view_is) (mark_found marks place key c.args.at within there same)
