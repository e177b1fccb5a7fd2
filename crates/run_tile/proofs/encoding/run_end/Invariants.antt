use Rattle.std.proofs.Common.{◌≡◌, ◌<◌, ◌≤◌, ℕ, get_or, pos}
use Rattle.run_tile.proofs.encoding.run_end.Given as goal

abbrev pub invariant-loop-place : goal.invariant-loop-place
invariant-loop-place l = (k : ℕ) → l.at ≤ k → k < l.place → get_or l.cells k (pos 0) ≡ get_or l.cells l.at (pos 0)
