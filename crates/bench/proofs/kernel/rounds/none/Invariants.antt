use Rattle.std.proofs.Common.{◌≡◌, ◌≤◌, length, All}
use Rattle.bench.proofs.kernel.rounds.none.Given as goal

abbrev pub invariant-loop-place : goal.invariant-loop-place
invariant-loop-place g l = record {
  length : length l.condensers.items ≡ l.place;
  empty : All (λ c. g.C.Condenser.counted c ≤ 0) l.condensers.items;
}
