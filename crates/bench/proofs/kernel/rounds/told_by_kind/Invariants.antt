use Rattle.std.proofs.Common.{◌≡◌, ◌≤◌, length, All}
use Rattle.bench.proofs.kernel.rounds.told_by_kind.Given as goal

abbrev pub invariant-loop-round : goal.invariant-loop-round
invariant-loop-round g l = record {
  length : length l.condensers ≡ length l.initial.condensers;
  room : All (λ c. g.C.Condenser.counted c ≤ l.round) l.condensers;
}
