use Rattle.std.proofs.Common.{◌≡◌, ◌≤◌, length, All}
use Rattle.tile_kernel.specs.declared.accumulator.Accumulator.{Accumulator}
use Rattle.bench.proofs.kernel.rounds.told.Given as goal

abbrev pub invariant-loop-round : goal.invariant-loop-round
invariant-loop-round l = record {
  places : length l.folds ≡ length l.column;
  room : All (λ (a : Accumulator). a.running.count ≤ l.round) l.folds;
}
