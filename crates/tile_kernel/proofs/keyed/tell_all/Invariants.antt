use Rattle.std.proofs.Common.{◌≡◌, ℕ, ◌+◌, ◌<◌, ◌≤◌, get_or, length, List, [], ◌∷◌, ◌++◌}
use Rattle.tile_kernel.specs.Told.{Told}
use Rattle.tile_kernel.proofs.keyed.tell_all.Given as goal

abbrev pub invariant-loop-k : goal.invariant-loop-k
invariant-loop-k g l = record {
  stands : (k : ℕ) (d : g.row.C.Denot) → k < l.k → (told : List Told) → g.C.Condenser.stands (get_or l.initial.folds k d) told → g.C.Condenser.stands (get_or l.folds k d) (told ++ (l.place, l.o) ∷ []);
  room : (k : ℕ) (d : g.row.C.Denot) → k < l.k → g.C.Condenser.counted (get_or l.folds k d) ≤ g.C.Condenser.counted (get_or l.initial.folds k d) + 1;
  rest : (k : ℕ) (d : g.row.C.Denot) → l.k ≤ k → get_or l.folds k d ≡ get_or l.initial.folds k d;
  length : length l.folds ≡ length l.initial.folds;
}
