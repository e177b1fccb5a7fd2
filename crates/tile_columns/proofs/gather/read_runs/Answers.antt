-- The values of the cells of the tile.
use Rattle.std.proofs.Common.{◌∙◌, ap, map, length}
use Rattle.std.proofs.lemmas.List.{length-map}
use Rattle.arr_core.specs.Domains.{points}
use Rattle.arr_core.specs.Runs.{cells_of}
use Rattle.wcps_mean.specs.declared.cell.Outcome.TheVariants.{Value}
use Rattle.tile_columns.specs.Sources.{box_in}
use Rattle.tile_columns.proofs.Ranges.{map_map}
use Rattle.tile_columns.proofs.gather.read_runs.Goals as goal

pub returns-clause-value : goal.returns-clause-value
returns-clause-value g c = λ i.
    let s = g.S.Tiles.state c.args.source.now in
    let r = c.args.reading.now in
    c.spread_unless.ensures ∙ c.exchange_runs.ensures.value ∙ ap (map Value) (c.in_ok-runs.ensures.value i) ∙ map_map Value (s.cells r.coverage r.field) (points (box_in s r.coverage c.args.number))

pub returns-clause-places : goal.returns-clause-places
returns-clause-places g c = ap length (c.spread_unless.ensures ∙ c.exchange_runs.ensures.value) ∙ length-map (cells_of c.runs.new.runs) Value ∙ c.in_ok-runs.ensures.places
