use Rattle.std.proofs.Common.{◌≡◌, ℕ, ◌<◌, get_or, pos}
use Rattle.tile_kernel.specs.Columns.{outcome_at}
use Rattle.tile_columns.specs.Binding.{coordinate_or_lo}
use Rattle.tile_columns.proofs.binds.write_coordinates.Given as goal

abbrev pub invariant-loop-place : goal.invariant-loop-place
invariant-loop-place l = (k : ℕ) → k < l.place → get_or l.all k (pos 0) ≡ coordinate_or_lo l.interval.lo l.interval.hi (outcome_at l.positions k)
