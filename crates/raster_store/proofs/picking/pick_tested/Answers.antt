-- Cells of a tile of the coverage are read as those of one of its field.
use Rattle.std.proofs.Common.{[], ◌∷◌, refl}
use Rattle.std.proofs.lemmas.Result.{err_from_is_err_and}
use Rattle.tile_store.specs.Listing.{listed}
use Rattle.tile_store.proofs.Takes.{reads_whole}
use Rattle.raster_store.specs.Holding.{tile_in}
use Rattle.raster_store.proofs.Readings.{placed, spelled_is, picked_tile}
use Rattle.raster_store.proofs.picking.pick_tested.Goals as goal

pub tiles-tiles-requires : goal.tiles-tiles-requires
tiles-tiles-requires g c =
    let at = placed _ (c.args.of.tile.coverage.now ∷ []) (tile_in c.args.of.tile.field c.args.of.tile.tile) c.args.of.tile.coverage.now c.requires.held c.requires.tile refl in
    record { whole = at.of.facts.whole; field = at.of.described }

pub pick_tile_into-requires : goal.pick_tile_into-requires
pick_tile_into-requires g c =
    let at = placed _ (c.args.of.tile.coverage.now ∷ []) (tile_in c.args.of.tile.field c.args.of.tile.tile) c.args.of.tile.coverage.now c.requires.held c.requires.tile refl in
    record {
      tile = rw c.tiles-tiles.ensures.domain at.below;
      ranks = rw c.tiles-tiles.ensures.domain c.requires.ranks;
      sound = rw (c.tiles-tiles.ensures.domain, c.tiles-tiles.ensures.index) at.of.sound;
    }

pub returns-in_err-pick_tile_into-clause-why : goal.returns-in_err-pick_tile_into-clause-why
returns-in_err-pick_tile_into-clause-why g c =
    let at = placed _ (c.args.of.tile.coverage.now ∷ []) (tile_in c.args.of.tile.field c.args.of.tile.tile) c.args.of.tile.coverage.now c.requires.held c.requires.tile refl in
    let p = err_from_is_err_and c.from_residual.result c.from_residual.ensures.1 in
    let why = c.in_err-pick_tile_into.ensures.why in
    rw (p.1, p.2) (record {
      for_damage = λ err sure spelled. why.for_damage err sure ((spelled_is at c.tiles-tiles.result c.tiles-tiles.ensures).0 spelled);
      for_room = why.for_room;
    })

pub returns-clause-read : goal.returns-clause-read
returns-clause-read g c =
    let at = placed _ (c.args.of.tile.coverage.now ∷ []) (tile_in c.args.of.tile.field c.args.of.tile.tile) c.args.of.tile.coverage.now c.requires.held c.requires.tile refl in
    picked_tile at c.tiles-tiles.result c.args.of.ranks.now c.pick_tile_into.new.cells.items c.tiles-tiles.ensures c.requires.ranks c.in_ok-pick_tile_into.ensures.picked c.requires.tested

pub returns-in_err-pick_tile_into-clause-frame : goal.returns-in_err-pick_tile_into-clause-frame
returns-in_err-pick_tile_into-clause-frame g c =
    let at = placed _ (c.args.of.tile.coverage.now ∷ []) (tile_in c.args.of.tile.field c.args.of.tile.tile) c.args.of.tile.coverage.now c.requires.held c.requires.tile refl in
    reads_whole (listed c.tiles-tiles.result.index.now) _ _ (rw c.tiles-tiles.ensures.index at.of.sound.whole) c.in_err-pick_tile_into.ensures.frame

pub returns-clause-frame : goal.returns-clause-frame
returns-clause-frame g c =
    let at = placed _ (c.args.of.tile.coverage.now ∷ []) (tile_in c.args.of.tile.field c.args.of.tile.tile) c.args.of.tile.coverage.now c.requires.held c.requires.tile refl in
    reads_whole (listed c.tiles-tiles.result.index.now) _ _ (rw c.tiles-tiles.ensures.index at.of.sound.whole) c.in_ok-pick_tile_into.ensures.frame
