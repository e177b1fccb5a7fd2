use Rattle.std.proofs.Common.{◌≡◌, ◌++◌, map, take}
use Rattle.tile_columns.specs.Windows.{value_of}
use Rattle.tile_columns.proofs.halo.push_values.Given as goal

abbrev pub invariant-loop-place : goal.invariant-loop-place
invariant-loop-place l = l.cells.items ≡ l.fn.cells.items ++ map value_of (take l.place l.column)
