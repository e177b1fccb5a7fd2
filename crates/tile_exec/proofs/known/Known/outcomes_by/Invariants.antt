use Rattle.std.proofs.Common.{◌≡◌, ◌<◌, ℕ, length}
use Rattle.tile_kernel.specs.Columns.{outcome_at}
use Rattle.tile_exec.specs.Known.{IsKnownPair}
use Rattle.tile_exec.proofs.known.Known.outcomes_by.Given as goal

abbrev pub invariant-loop-place : goal.invariant-loop-place
invariant-loop-place l = record {
  many : length l.outcomes.items ≡ l.place;
  each : (k : ℕ) → k < l.place → IsKnownPair l.self.outcomes.items (outcome_at l.keys k) (outcome_at l.outcomes.items k);
}
