use Rattle.std.proofs.Common.{ℕ, ◌<◌}
use Rattle.tile_kernel.specs.Columns.{outcome_at}
use Rattle.tile_columns.specs.Binding.{IsSettled}
use Rattle.tile_columns.proofs.binds.all_lie_in.Given as goal

abbrev pub invariant-loop-place : goal.invariant-loop-place
invariant-loop-place l = (k : ℕ) → k < l.place → IsSettled l.interval.lo l.interval.hi (outcome_at l.positions k)
