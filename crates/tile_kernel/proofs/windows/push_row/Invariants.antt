use Rattle.std.proofs.Common.{◌≡◌, ◌++◌, take}
use Rattle.tile_kernel.specs.Windows.{windows_of_rows}
use Rattle.tile_kernel.proofs.windows.push_row.Given as goal

abbrev pub invariant-loop-place : goal.invariant-loop-place
invariant-loop-place g l = l.outcomes.items ≡ l.initial.outcomes.items ++ windows_of_rows g.S.Summary.op l.grid (take l.place l.across) l.down
