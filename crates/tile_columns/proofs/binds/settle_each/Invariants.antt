use Rattle.std.proofs.Common.{◌≡◌, map}
use Rattle.std.specs.List.{range_with_len}
use Rattle.wcps_mean.specs.Cells.{at_position}
use Rattle.tile_kernel.specs.Columns.{outcome_at}
use Rattle.tile_columns.proofs.binds.settle_each.Given as goal

abbrev pub invariant-loop-place : goal.invariant-loop-place
invariant-loop-place l = l.outcomes.items ≡ map (λ k. at_position (outcome_at l.positions k) l.interval.lo l.interval.hi (λ z. outcome_at l.column k)) (range_with_len 0 l.place)
