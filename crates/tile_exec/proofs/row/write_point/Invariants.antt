use Rattle.std.proofs.Common.{◌≡◌, length, take}
use Rattle.tile_exec.specs.Items.{AreWrittenTo}
use Rattle.tile_exec.specs.Rows.{row_at, cells_from}
use Rattle.tile_exec.proofs.row.write_point.Given as goal

abbrev pub invariant-loop-j : goal.invariant-loop-j
invariant-loop-j l = record {
  length : length l.cells.items ≡ length l.fn.cells.items;
  written : AreWrittenTo l.fn.cells.items l.cells.items (cells_from l.place (take l.j l.booleans) (row_at (take l.j l.columns) l.k));
}
