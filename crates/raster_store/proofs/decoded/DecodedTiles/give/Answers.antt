-- The list has the cells of the tile that was kept, and without it the others are kept.
use Rattle.std.proofs.Common.{◌≡◌, ◌∙◌, sym, ap, Option}
use Rattle.std.specs.Map.{lookup}
use Rattle.std.specs.Prelude.{Some}
use Rattle.arr_core.specs.declared.runs.RunList.{RunList}
use Rattle.lru.specs.LruCache.{LruCache}
use Rattle.raster_store.specs.declared.reading.TileKey.{TileKey}
use Rattle.raster_store.specs.Decoded.{kept_of}
use Rattle.raster_store.proofs.Writes.{is_at, looked_up, popped_kept}
use Rattle.raster_store.proofs.decoded.DecodedTiles.give.Goals as goal

pub returns-clause-kept : goal.returns-clause-kept
returns-clause-kept c = λ _.
    let old : c.args.self.now ≡ record { tiles = c.in-Some.kept.entries; tested = c.self.inside.tested.items } = sym c.self.view_is ∙ ap (λ (o : Option (LruCache TileKey RunList)). kept_of o c.self.inside.tested.items) c.in-Some.is in
    let tile = c.in-Some-pop.tile in
    let found : lookup (is_at c.args.at) c.in-Some.kept.entries ≡ Some tile = sym c.pop.ensures.value ∙ c.in-Some-pop.is in
    (tile, rw old (looked_up c.args.at c.in-Some.kept.entries tile found), sym c.exchange_narrow.ensures.cells)

pub returns-clause-unkept : goal.returns-clause-unkept
returns-clause-unkept c = λ _.
    let old : c.args.self.now ≡ record { tiles = c.in-Some.kept.entries; tested = c.self.inside.tested.items } = sym c.self.view_is ∙ ap (λ (o : Option (LruCache TileKey RunList)). kept_of o c.self.inside.tested.items) c.in-Some.is in
    rw (c.pop.ensures.entries, old) (popped_kept c.args.at c.in-Some.kept.entries c.self.inside.tested.items)
