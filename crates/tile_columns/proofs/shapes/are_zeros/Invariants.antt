use Rattle.std.proofs.Common.{ℕ, ◌<◌}
use Rattle.tile_kernel.specs.Columns.{outcome_at}
use Rattle.tile_columns.specs.Shapes.{IsZero}
use Rattle.tile_columns.proofs.shapes.are_zeros.Given as goal

abbrev pub invariant-loop-k : goal.invariant-loop-k
invariant-loop-k l = (k : ℕ) → k < l.k → IsZero (outcome_at l.column k)
