use Rattle.std.proofs.Common.{◌≡◌, ◌+◌, ◌*◌, ◌≤◌, length, drop, IsAscii}
use Rattle.csv_out.specs.Csv.{cells_text}
use Rattle.csv_out.specs.Places.{IsPlace}
use Rattle.csv_out.proofs.cells.write_cells.Given as goal

-- the cells from here on are written, and there is room for those before
abbrev pub invariant-loop-left : goal.invariant-loop-left
invariant-loop-left l = record {
  inside : l.left ≤ length l.cells;
  room : 21 * l.left ≤ l.at;
  within : l.at ≤ 2688;
  place : IsPlace l.shape (l.before + l.left) l.place;
  ascii : IsAscii (drop l.at l.room);
  written : drop l.at l.room ≡ cells_text l.shape.fields l.shape.line (l.before + l.left) (drop l.left l.cells);
}

abbrev pub decreases-loop-left : goal.decreases-loop-left
decreases-loop-left l = l.left
