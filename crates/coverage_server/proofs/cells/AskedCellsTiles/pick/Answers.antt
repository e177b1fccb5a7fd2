-- Cells of a tile of the coverage at a place.
use Rattle.coverage_server.specs.Tiles.{store_for}
use Rattle.coverage_server.proofs.TileLemmas.{asked_reads, found_at, has_tile, picked_cells, tile_ranks, tile_reports}
use Rattle.coverage_server.proofs.cells.AskedCellsTiles.pick.Goals as goal

pub pick-requires : goal.pick-requires
pick-requires g c =
    let s = c.args.self.now in
    let store = store_for s.job s.coverages in
    let f = found_at store s.places.items c.args.coverage c.args.field c.args.tile c.index.result.now c.requires.tile c.index.ensures in
    record {
      tile = has_tile store s.places.items c.args.coverage c.args.field c.args.tile c.index.result.now f;
      ranks = tile_ranks store s.places.items c.args.coverage c.args.field c.args.tile c.index.result.now c.args.ranks.now f c.requires.ranks;
    }

pub returns-in-Ok-clause-value : goal.returns-in-Ok-clause-value
returns-in-Ok-clause-value g c =
    let s = c.args.self.now in
    let store = store_for s.job s.coverages in
    let f = found_at store s.places.items c.args.coverage c.args.field c.args.tile c.index.result.now c.requires.tile c.index.ensures in
    λ reads. picked_cells store s.places.items c.args.coverage c.args.field c.args.tile c.index.result.now c.args.ranks.now c.pick.new.numbers.items f reads.domains c.requires.ranks (c.in-Ok.ensures.value reads.honest)

pub returns-in-Err-clause-reports : goal.returns-in-Err-clause-reports
returns-in-Err-clause-reports g c =
    let s = c.args.self.now in
    let store = store_for s.job s.coverages in
    let f = found_at store s.places.items c.args.coverage c.args.field c.args.tile c.index.result.now c.requires.tile c.index.ensures in
    let has = has_tile store s.places.items c.args.coverage c.args.field c.args.tile c.index.result.now f in
    tile_reports s.coverages c.pick.new.self s.job s.places.items c.args.coverage _ f.at has c.in-Err.fault c.cell_error.result c.cell_error.ensures c.in-Err.ensures.why c.in-Err.ensures.told

pub returns-in-Ok-clause-reads : goal.returns-in-Ok-clause-reads
returns-in-Ok-clause-reads g c =
    let s = c.args.self.now in asked_reads s.job s.places.items s.coverages c.pick.new.self c.pick.ensures.still c.pick.ensures.rises

pub returns-in-Err-clause-reads : goal.returns-in-Err-clause-reads
returns-in-Err-clause-reads g c =
    let s = c.args.self.now in asked_reads s.job s.places.items s.coverages c.pick.new.self c.pick.ensures.still c.pick.ensures.rises
