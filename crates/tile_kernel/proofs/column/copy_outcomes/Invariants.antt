use Rattle.std.proofs.Common.{◌≡◌, ℕ, ◌<◌, get_or, pos, None, true}
use Rattle.wcps_mean.specs.declared.cell.Outcome.TheVariants.{Value}
use Rattle.tile_kernel.specs.Columns.{outcome_of, outcome_at}
use Rattle.tile_kernel.proofs.column.copy_outcomes.Given as goal

abbrev pub invariant-loop-place : goal.invariant-loop-place
invariant-loop-place l = record {
  outcomes : (k : ℕ) → k < l.place → outcome_of (get_or l.numbers k (pos 0)) (get_or l.marks k None) ≡ outcome_at l.outcomes k;
  values : l.are_values ≡ true → (k : ℕ) → k < l.place → outcome_at l.outcomes k ≡ Value (get_or l.numbers k (pos 0));
}
