use Rattle.std.proofs.Common.{length}
use Rattle.tile_kernel.specs.Told.{IsFirst}
use Rattle.tile_exec.specs.Rows.{rows_told}
use Rattle.tile_exec.proofs.row.first_of.Given as goal

abbrev pub invariant-loop-k : goal.invariant-loop-k
invariant-loop-k l = IsFirst l.first.fault l.first.place (rows_told l.ranks (length l.columns) l.columns l.k)
