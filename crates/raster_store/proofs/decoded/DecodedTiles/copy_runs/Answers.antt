-- A tile that is found is kept with the cells that were written, and moves to the front.
use Rattle.std.proofs.Common.{◌≡◌, ◌∙◌, Bool, IsTrue, Contains, Result, Ok, Err, sym, ap, Option}
use Rattle.std.specs.Map.{lookup}
use Rattle.std.specs.Prelude.{Some, IfOk}
use Rattle.arr_core.specs.declared.runs.RunList.{RunList}
use Rattle.arr_core.specs.Runs.{cells_of}
use Rattle.lru.specs.LruCache.{LruCache}
use Rattle.raster_store.specs.declared.reading.TileKey.{TileKey}
use Rattle.raster_store.specs.Decoded.{Kept, IsKept, kept_of}
use Rattle.raster_store.proofs.Writes.{is_at, looked_up, promoted_kept}
use Rattle.raster_store.proofs.decoded.DecodedTiles.copy_runs.Goals as goal

-- the cells that were written are kept, where they were
kept_written : {E : Type 0} (result : Result Bool E) (at : TileKey) (tile runs : RunList) (kept : Kept) → Contains kept.tiles (at, tile) → IfOk result (λ done. IsTrue done → cells_of runs ≡ cells_of tile) → IfOk result (λ found. IsTrue found → IsKept at (Some (cells_of runs)) kept)
kept_written (Ok done) at tile runs kept there same = λ yes. (tile, there, sym (same yes))
kept_written (Err e) at tile runs kept there same = same

pub returns-in_default-get-clause-same : goal.returns-in_default-get-clause-same
returns-in_default-get-clause-same c =
    let old : c.args.self.now ≡ record { tiles = c.in-Some.kept.entries; tested = c.self.inside.tested.items } = sym c.self.view_is ∙ ap (λ (o : Option (LruCache TileKey RunList)). kept_of o c.self.inside.tested.items) c.in-Some.is in
    rw (c.get.follows.holds-at-none, old) (promoted_kept c.args.at c.in-Some.kept.entries c.self.inside.tested.items)

pub returns-clause-same : goal.returns-clause-same
returns-clause-same c =
    let old : c.args.self.now ≡ record { tiles = c.in-Some.kept.entries; tested = c.self.inside.tested.items } = sym c.self.view_is ∙ ap (λ (o : Option (LruCache TileKey RunList)). kept_of o c.self.inside.tested.items) c.in-Some.is in
    rw (c.get.follows.holds-at-none, old) (promoted_kept c.args.at c.in-Some.kept.entries c.self.inside.tested.items)

pub returns-clause-kept : goal.returns-clause-kept
returns-clause-kept c =
    let old : c.args.self.now ≡ record { tiles = c.in-Some.kept.entries; tested = c.self.inside.tested.items } = sym c.self.view_is ∙ ap (λ (o : Option (LruCache TileKey RunList)). kept_of o c.self.inside.tested.items) c.in-Some.is in
    let tile = c.in-Some-get.tile.now in
    let found : lookup (is_at c.args.at) c.in-Some.kept.entries ≡ Some tile = sym c.in-Some-get.ensures.value in
    let there : Contains c.args.self.now.tiles (c.args.at, tile) = rw old (looked_up c.args.at c.in-Some.kept.entries tile found) in
    kept_written c.write_list.result c.args.at tile c.write_list.new.runs c.args.self.now there c.write_list.ensures.cells
