-- A tile that is found is kept with its cells, and moves to the front.
use Rattle.std.proofs.Common.{◌≡◌, ◌∙◌, ◌++◌, [], List, sym, ap, Option}
use Rattle.std.specs.Map.{lookup}
use Rattle.std.specs.Prelude.{Some, ℤ}
use Rattle.arr_core.specs.declared.runs.RunList.{RunList}
use Rattle.arr_core.specs.Runs.{cells_of}
use Rattle.lru.specs.LruCache.{LruCache}
use Rattle.raster_store.specs.declared.reading.TileKey.{TileKey}
use Rattle.raster_store.specs.Decoded.{kept_of}
use Rattle.raster_store.proofs.Writes.{is_at, looked_up, promoted_kept}
use Rattle.raster_store.proofs.decoded.DecodedTiles.get.Goals as goal

pub returns-in_default-get-clause-same : goal.returns-in_default-get-clause-same
returns-in_default-get-clause-same c =
    let old : c.args.self.now ≡ record { tiles = c.in-Some.kept.entries; tested = c.self.inside.tested.items } = sym c.self.view_is ∙ ap (λ (o : Option (LruCache TileKey RunList)). kept_of o c.self.inside.tested.items) c.in-Some.is in
    rw (c.get.follows.holds-at-none, old) (promoted_kept c.args.at c.in-Some.kept.entries c.self.inside.tested.items)

pub returns-in_err-append_cells-clause-same : goal.returns-in_err-append_cells-clause-same
returns-in_err-append_cells-clause-same c =
    let old : c.args.self.now ≡ record { tiles = c.in-Some.kept.entries; tested = c.self.inside.tested.items } = sym c.self.view_is ∙ ap (λ (o : Option (LruCache TileKey RunList)). kept_of o c.self.inside.tested.items) c.in-Some.is in
    rw (c.get.follows.holds-at-none, old) (promoted_kept c.args.at c.in-Some.kept.entries c.self.inside.tested.items)

pub returns-clause-same : goal.returns-clause-same
returns-clause-same c =
    let old : c.args.self.now ≡ record { tiles = c.in-Some.kept.entries; tested = c.self.inside.tested.items } = sym c.self.view_is ∙ ap (λ (o : Option (LruCache TileKey RunList)). kept_of o c.self.inside.tested.items) c.in-Some.is in
    rw (c.get.follows.holds-at-none, old) (promoted_kept c.args.at c.in-Some.kept.entries c.self.inside.tested.items)

pub returns-clause-kept : goal.returns-clause-kept
returns-clause-kept c =
    let old : c.args.self.now ≡ record { tiles = c.in-Some.kept.entries; tested = c.self.inside.tested.items } = sym c.self.view_is ∙ ap (λ (o : Option (LruCache TileKey RunList)). kept_of o c.self.inside.tested.items) c.in-Some.is in
    let tile = c.in-Some-get.tile.now in
    let found : lookup (is_at c.args.at) c.in-Some.kept.entries ≡ Some tile = sym c.in-Some-get.ensures.value in
    let empty : c.clear.new.self.items ≡ [] = c.clear.ensures.items in
    let copied : cells_of tile ≡ c.append_cells.new.cells.items = sym (c.in_ok-append_cells.ensures ∙ ap (λ (l : List ℤ). l ++ cells_of tile) empty) in
    λ _. (tile, rw old (looked_up c.args.at c.in-Some.kept.entries tile found), copied)
