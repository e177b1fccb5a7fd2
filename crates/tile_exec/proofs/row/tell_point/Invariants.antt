use Rattle.std.proofs.Common.{take}
use Rattle.std.specs.List.{enumerate_from}
use Rattle.tile_exec.specs.Items.{IsFirstAfter}
use Rattle.tile_exec.specs.Rows.{row_at}
use Rattle.tile_exec.proofs.row.tell_point.Given as goal

abbrev pub invariant-loop-j : goal.invariant-loop-j
invariant-loop-j l = IsFirstAfter l.fn.first l.first (enumerate_from l.place (row_at (take l.j l.columns) l.k))
