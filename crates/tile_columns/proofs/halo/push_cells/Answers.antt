-- The values of the column that is read.
use Rattle.std.proofs.Common.{ap, arith, map, length, length-append}
use Rattle.std.proofs.lemmas.List.{length-map}
use Rattle.tile_columns.specs.Readings.{cell_read}
use Rattle.tile_columns.specs.Windows.{value_of}
use Rattle.tile_columns.proofs.Halos.{values_read}
use Rattle.tile_columns.proofs.halo.push_cells.Goals as goal

pub returns-clause-value : goal.returns-clause-value
returns-clause-value g c = λ i.
    values_read (cell_read (g.S.Tiles.state c.args.source.now) c.args.reading.now) c.args.frame.now c.read.new.out c.args.cells.now.items c.push_values.new.cells.items c.in_ok-push_values.ensures (c.in_ok-read.ensures.value i)

pub returns-clause-many : goal.returns-clause-many
returns-clause-many g c =
    let a = ap length c.in_ok-push_values.ensures in
    let b = length-append c.args.cells.now.items (map value_of c.read.new.out) in
    let d = length-map c.read.new.out value_of in
    omega (arith, a, b, d, c.in_ok-read.ensures.places)
