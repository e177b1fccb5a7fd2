use Rattle.std.proofs.Common.{◌≡◌, ℕ, ◌+◌, ◌<◌, ◌≤◌, get_or, length, List, [], ◌∷◌, ◌++◌}
use Rattle.tile_kernel.specs.Columns.{outcome_at}
use Rattle.tile_kernel.specs.Told.{Told}
use Rattle.tile_kernel.proofs.condenser.tell_view.Given as goal

abbrev pub invariant-loop-k : goal.invariant-loop-k
invariant-loop-k g l = record {
  stands : (k : ℕ) (d : g.row.C.Denot) → k < l.k → (told : List Told) → g.C.Condenser.stands (get_or l.initial.condensers k d) told → g.C.Condenser.stands (get_or l.condensers k d) (told ++ (l.place, outcome_at l.column k) ∷ []);
  room : (k : ℕ) (d : g.row.C.Denot) → k < l.k → g.C.Condenser.counted (get_or l.condensers k d) ≤ l.place + 1;
  rest : (k : ℕ) (d : g.row.C.Denot) → l.k ≤ k → get_or l.condensers k d ≡ get_or l.initial.condensers k d;
  length : length l.condensers ≡ length l.initial.condensers;
}
