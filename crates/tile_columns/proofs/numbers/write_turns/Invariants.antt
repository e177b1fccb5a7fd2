use Rattle.std.proofs.Common.{◌≡◌, ℕ, ◌<◌, ◌≤◌, get_or, pos}
use Rattle.tile_columns.specs.Frames.{turn, IsTurnAt}
use Rattle.tile_columns.proofs.numbers.write_turns.Given as goal

abbrev pub invariant-loop-place : goal.invariant-loop-place
invariant-loop-place l = record {
  written : (k : ℕ) → k < l.place → get_or l.all k (pos 0) ≡ turn l.fn.lo l.fn.hi l.fn.every k;
  turn : IsTurnAt l.every l.last l.place l.now;
  low : l.now.step ≤ l.last;
  few : l.now.times < l.every;
}
