-- The values of the cells of the tile.
use Rattle.std.proofs.Common.{◌∙◌, ap, arith, map, length}
use Rattle.std.proofs.lemmas.List.{length-map}
use Rattle.arr_core.specs.Domains.{points}
use Rattle.wcps_mean.specs.declared.cell.Outcome.TheVariants.{Value}
use Rattle.tile_columns.specs.Sources.{box_in}
use Rattle.tile_columns.proofs.Ranges.{map_map}
use Rattle.tile_columns.proofs.gather.read_tile.Goals as goal

pub write-requires : goal.write-requires
write-requires g c =
    let m = ap length c.deref.ensures.value ∙ c.in_ok-tile.ensures.places ∙ c.requires.points in
    omega (arith, m, c.requires.few)

pub returns-clause-value : goal.returns-clause-value
returns-clause-value g c = λ i.
    let s = g.S.Tiles.state c.args.source.now in
    let r = c.args.reading.now in
    c.write.ensures ∙ ap (map Value) (c.deref.ensures.value ∙ c.in_ok-tile.ensures.value i) ∙ map_map Value (s.cells r.coverage r.field) (points (box_in s r.coverage c.args.number))

pub returns-clause-places : goal.returns-clause-places
returns-clause-places g c = ap length (c.write.ensures) ∙ length-map c.deref.result.now Value ∙ ap length c.deref.ensures.value ∙ c.in_ok-tile.ensures.places ∙ c.requires.points
