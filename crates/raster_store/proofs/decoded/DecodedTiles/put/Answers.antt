-- A tile is added, or nothing is.
use Rattle.std.proofs.Common.{◌≡◌, ◌∙◌, sym, ap, refl, Option}
use Rattle.arr_core.specs.declared.runs.RunList.{RunList}
use Rattle.arr_core.specs.Runs.{cells_of}
use Rattle.lru.specs.LruCache.{LruCache}
use Rattle.raster_store.specs.declared.reading.TileKey.{TileKey}
use Rattle.raster_store.specs.Decoded.{kept_of}
use Rattle.raster_store.proofs.Writes.{put_kept}
use Rattle.raster_store.proofs.decoded.DecodedTiles.put.Goals as goal

pub returns : goal.returns
returns c =
    let old : c.args.self.now ≡ record { tiles = c.in-Some.kept.entries; tested = c.self.inside.tested.items } = sym c.self.view_is ∙ ap (λ (o : Option (LruCache TileKey RunList)). kept_of o c.self.inside.tested.items) c.in-Some.is in
    rw old (put_kept c.put-put.result c.in-Some.kept c.put-put.new.self c.self.inside.tested.items c.args.at c.args.tile (cells_of c.args.tile) c.put-put.ensures.entries c.put-put.ensures.err refl)
