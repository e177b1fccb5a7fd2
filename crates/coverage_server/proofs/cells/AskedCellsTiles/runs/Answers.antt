-- The runs of a tile of the coverage at a place.
use Rattle.std.proofs.Common.{◌∙◌}
use Rattle.arr_core.specs.Runs.{cells_of}
use Rattle.coverage_server.specs.Tiles.{store_for}
use Rattle.coverage_server.proofs.TileLemmas.{asked_reads, found_at, has_tile, tile_cells, tile_places, tile_reports, tile_room}
use Rattle.coverage_server.proofs.cells.AskedCellsTiles.runs.Goals as goal

pub fetch_runs-requires : goal.fetch_runs-requires
fetch_runs-requires g c =
    let s = c.args.self.now in
    let store = store_for s.job s.coverages in
    let f = found_at store s.places.items c.args.coverage c.args.field c.args.tile c.index.result.now c.requires.tile c.index.ensures in
    record {
      tile = has_tile store s.places.items c.args.coverage c.args.field c.args.tile c.index.result.now f;
      room = tile_room store s.places.items c.args.coverage c.args.field c.args.tile c.index.result.now c.args.runs.now.values.items f c.requires.points c.requires.room;
    }

pub returns-in-Ok-clause-value : goal.returns-in-Ok-clause-value
returns-in-Ok-clause-value g c =
    let s = c.args.self.now in
    let store = store_for s.job s.coverages in
    let f = found_at store s.places.items c.args.coverage c.args.field c.args.tile c.index.result.now c.requires.tile c.index.ensures in
    λ reads. tile_cells store s.places.items c.args.coverage c.args.field c.args.tile c.index.result.now (cells_of c.fetch_runs.new.runs) f reads.domains (c.in-Ok.ensures.value reads.honest)

pub returns-in-Ok-clause-places : goal.returns-in-Ok-clause-places
returns-in-Ok-clause-places g c =
    let s = c.args.self.now in
    let store = store_for s.job s.coverages in
    let f = found_at store s.places.items c.args.coverage c.args.field c.args.tile c.index.result.now c.requires.tile c.index.ensures in
    tile_places store s.places.items c.args.coverage c.args.field c.args.tile c.index.result.now (cells_of c.fetch_runs.new.runs) f c.in-Ok.ensures.counted
    ∙ c.requires.points

pub returns-in-Err-clause-reports : goal.returns-in-Err-clause-reports
returns-in-Err-clause-reports g c =
    let s = c.args.self.now in
    let store = store_for s.job s.coverages in
    let f = found_at store s.places.items c.args.coverage c.args.field c.args.tile c.index.result.now c.requires.tile c.index.ensures in
    let has = has_tile store s.places.items c.args.coverage c.args.field c.args.tile c.index.result.now f in
    tile_reports s.coverages c.fetch_runs.new.self s.job s.places.items c.args.coverage _ f.at has c.in-Err.fault c.cell_error.result c.cell_error.ensures c.in-Err.ensures.why c.in-Err.ensures.told

pub returns-in-Ok-clause-reads : goal.returns-in-Ok-clause-reads
returns-in-Ok-clause-reads g c =
    let s = c.args.self.now in asked_reads s.job s.places.items s.coverages c.fetch_runs.new.self c.fetch_runs.ensures.still c.fetch_runs.ensures.rises

pub returns-in-Err-clause-reads : goal.returns-in-Err-clause-reads
returns-in-Err-clause-reads g c =
    let s = c.args.self.now in asked_reads s.job s.places.items s.coverages c.fetch_runs.new.self c.fetch_runs.ensures.still c.fetch_runs.ensures.rises
