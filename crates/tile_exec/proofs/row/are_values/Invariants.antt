use Rattle.std.proofs.Common.{ℕ, ◌<◌, [], get_or}
use Rattle.std.specs.Prelude.{All}
use Rattle.tile_kernel.specs.Told.{IsValue}
use Rattle.tile_exec.proofs.row.are_values.Given as goal

abbrev pub invariant-loop-k : goal.invariant-loop-k
invariant-loop-k l = (j : ℕ) → j < l.k → All IsValue (get_or l.columns j [])
