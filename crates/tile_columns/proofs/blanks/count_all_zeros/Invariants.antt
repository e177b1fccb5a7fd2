use Rattle.std.proofs.Common.{◌≡◌, ℕ, ◌<◌, ◌≤◌, get_or}
use Rattle.tile_kernel.specs.declared.accumulator.Accumulator.{Accumulator}
use Rattle.tile_columns.specs.Blanks.{CountsZeros}
use Rattle.tile_columns.proofs.blanks.count_all_zeros.Given as goal

-- the first accumulators have been counted up, and those behind them are as before
abbrev pub invariant-loop-k : goal.invariant-loop-k
invariant-loop-k l = record {
  stands : (k : ℕ) (d : Accumulator) → k < l.k → CountsZeros l.count (get_or l.initial.folds k d) (get_or l.folds k d);
  room : (k : ℕ) (d : Accumulator) → k < l.k → (get_or l.folds k d).running.count ≡ l.count;
  op : (k : ℕ) (d : Accumulator) → k < l.k → (get_or l.folds k d).running.op ≡ (get_or l.initial.folds k d).running.op;
  rest : (k : ℕ) (d : Accumulator) → l.k ≤ k → get_or l.folds k d ≡ get_or l.initial.folds k d;
}
