-- A tile of the coverage is read as one of its field, and has as many points there.
use Rattle.std.proofs.Common.{[], ◌∷◌, refl}
use Rattle.std.proofs.lemmas.Result.{err_from_is_err_and}
use Rattle.tile_store.specs.Listing.{listed}
use Rattle.tile_store.proofs.Takes.{reads_whole}
use Rattle.arr_core.specs.Runs.{cells_of}
use Rattle.raster_store.specs.Holding.{tile_in}
use Rattle.raster_store.proofs.Readings.{placed, spelled_is, decoded_tile}
use Rattle.raster_store.proofs.runs.read_runs_of.Goals as goal

pub tiles-tiles-requires : goal.tiles-tiles-requires
tiles-tiles-requires g c =
    let at = placed _ (c.args.of.coverage.now ∷ []) (tile_in c.args.of.field c.args.of.tile) c.args.of.coverage.now c.requires.held c.requires.tile refl in
    record { whole = at.of.facts.whole; field = at.of.described }

pub read_runs_into-requires : goal.read_runs_into-requires
read_runs_into-requires g c =
    let at = placed _ (c.args.of.coverage.now ∷ []) (tile_in c.args.of.field c.args.of.tile) c.args.of.coverage.now c.requires.held c.requires.tile refl in
    record { tile = rw c.tiles-tiles.ensures.domain at.below; room = rw (← c.tiles-tiles.ensures.domain) at c.requires.room; used = rw c.tiles-tiles.ensures.index at.of.sound.counted }

pub returns-in_err-read_runs_into-clause-why : goal.returns-in_err-read_runs_into-clause-why
returns-in_err-read_runs_into-clause-why g c =
    let at = placed _ (c.args.of.coverage.now ∷ []) (tile_in c.args.of.field c.args.of.tile) c.args.of.coverage.now c.requires.held c.requires.tile refl in
    let p = err_from_is_err_and c.from_residual.result c.from_residual.ensures.1 in
    let why = c.in_err-read_runs_into.ensures.why in
    rw (p.1, p.2) (record {
      for_damage = λ err sure spelled. why.for_damage err sure ((spelled_is at c.tiles-tiles.result c.tiles-tiles.ensures).0 spelled);
      for_room = why.for_room;
    })

pub returns-clause-read : goal.returns-clause-read
returns-clause-read g c =
    let at = placed _ (c.args.of.coverage.now ∷ []) (tile_in c.args.of.field c.args.of.tile) c.args.of.coverage.now c.requires.held c.requires.tile refl in
    decoded_tile at c.tiles-tiles.result (cells_of c.read_runs_into.new.runs) c.tiles-tiles.ensures c.in_ok-read_runs_into.ensures.read

pub returns-in_err-read_runs_into-clause-frame : goal.returns-in_err-read_runs_into-clause-frame
returns-in_err-read_runs_into-clause-frame g c =
    let at = placed _ (c.args.of.coverage.now ∷ []) (tile_in c.args.of.field c.args.of.tile) c.args.of.coverage.now c.requires.held c.requires.tile refl in
    reads_whole (listed c.tiles-tiles.result.index.now) _ _ (rw c.tiles-tiles.ensures.index at.of.sound.whole) c.in_err-read_runs_into.ensures.frame

pub returns-clause-frame : goal.returns-clause-frame
returns-clause-frame g c =
    let at = placed _ (c.args.of.coverage.now ∷ []) (tile_in c.args.of.field c.args.of.tile) c.args.of.coverage.now c.requires.held c.requires.tile refl in
    reads_whole (listed c.tiles-tiles.result.index.now) _ _ (rw c.tiles-tiles.ensures.index at.of.sound.whole) c.in_ok-read_runs_into.ensures.frame
