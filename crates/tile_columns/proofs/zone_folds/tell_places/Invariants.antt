use Rattle.std.proofs.Common.{◌≡◌, ℕ, ◌+◌, ◌<◌, ◌≤◌, length, get_or}
use Rattle.tile_kernel.specs.declared.accumulator.Accumulator.{Accumulator}
use Rattle.tile_kernel.specs.Columns.{outcome_at}
use Rattle.tile_kernel.specs.Standing.{AreOf, TakesIn}
use Rattle.tile_columns.specs.Zones.{added_with}
use Rattle.tile_columns.proofs.zone_folds.tell_places.Given as goal

-- the first accumulators have been told of the points that have their keys
abbrev pub invariant-loop-place : goal.invariant-loop-place
invariant-loop-place l = record {
  told : (k : ℕ) (d : Accumulator) → k < l.place → TakesIn (get_or l.initial.folds k d) (get_or l.folds k d) (added_with l.pool.seen.now (outcome_at l.pool.keys.now.column k));
  counted : (k : ℕ) (d : Accumulator) → k < l.place → (get_or l.folds k d).running.count ≤ (get_or l.initial.folds k d).running.count + length l.pool.seen.now.column.now;
  rest : (k : ℕ) (d : Accumulator) → l.place ≤ k → get_or l.folds k d ≡ get_or l.initial.folds k d;
  op : AreOf l.pool.op l.folds;
}
