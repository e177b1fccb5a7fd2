-- Values alone have no fault.
use Rattle.std.proofs.Common.{[], length, refl}
use Rattle.tile_kernel.proofs.Faults.{left_alone}
use Rattle.tile_exec.specs.Rows.{all_rows_told}
use Rattle.tile_exec.proofs.Rows.{rows_of_values}
use Rattle.tile_exec.proofs.row.first_fault.Goals as goal

pub returns-then-are_values : goal.returns-then-are_values
returns-then-are_values c =
    let ranks = c.args.ranks.now in
    let columns = c.args.columns.now in
    left_alone c.none.result.fault c.none.result.place [] (all_rows_told ranks (length columns) columns) c.none.ensures (rows_of_values ranks columns (c.if-are_values.ensures refl))
