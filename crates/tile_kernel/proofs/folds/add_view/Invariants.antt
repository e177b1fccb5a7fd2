use Rattle.std.proofs.Common.{◌≡◌, ℕ, ◌+◌, ◌<◌, ◌≤◌, get_or, List, [], ◌∷◌, ◌++◌}
use Rattle.tile_kernel.specs.declared.accumulator.Accumulator.{Accumulator}
use Rattle.tile_kernel.specs.Columns.{outcome_at}
use Rattle.tile_kernel.specs.Told.{Told}
use Rattle.tile_kernel.specs.Standing.{Stands}
use Rattle.tile_kernel.proofs.folds.add_view.Given as goal

abbrev pub invariant-loop-k : goal.invariant-loop-k
invariant-loop-k l = record {
  stands : (k : ℕ) (d : Accumulator) → k < l.k → (told : List Told) → Stands (get_or l.initial.folds k d) told → Stands (get_or l.folds k d) (told ++ (l.place, outcome_at l.column k) ∷ []);
  room : (k : ℕ) (d : Accumulator) → k < l.k → (get_or l.folds k d).running.count ≤ l.place + 1;
  op : (k : ℕ) (d : Accumulator) → k < l.k → (get_or l.folds k d).running.op ≡ (get_or l.initial.folds k d).running.op;
  rest : (k : ℕ) (d : Accumulator) → l.k ≤ k → get_or l.folds k d ≡ get_or l.initial.folds k d;
}
