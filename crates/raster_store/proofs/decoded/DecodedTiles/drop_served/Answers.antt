-- Without the tile the others are kept.
use Rattle.std.proofs.Common.{◌≡◌, ◌∙◌, sym, ap, Option}
use Rattle.arr_core.specs.declared.runs.RunList.{RunList}
use Rattle.lru.specs.LruCache.{LruCache}
use Rattle.raster_store.specs.declared.reading.TileKey.{TileKey}
use Rattle.raster_store.specs.Decoded.{kept_of}
use Rattle.raster_store.proofs.Writes.{popped_kept}
use Rattle.raster_store.proofs.decoded.DecodedTiles.drop_served.Goals as goal

pub returns : goal.returns
returns c =
    let old : c.args.self.now ≡ record { tiles = c.in-Some-kept.kept.entries; tested = c.self.inside.tested.items } = sym c.self.view_is ∙ ap (λ (o : Option (LruCache TileKey RunList)). kept_of o c.self.inside.tested.items) c.in-Some-kept.is in
    rw (c.pop-served.ensures.entries, old) (popped_kept c.in-Some.fresh c.in-Some-kept.kept.entries c.self.inside.tested.items)
