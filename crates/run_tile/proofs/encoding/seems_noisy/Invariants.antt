use Rattle.std.proofs.Common.{◌≤◌}
use Rattle.run_tile.proofs.encoding.seems_noisy.Given as goal

-- no more runs than places, and than are looked at
abbrev pub invariant-loop-place : goal.invariant-loop-place
invariant-loop-place l = record { few : l.runs ≤ l.place; within : l.runs ≤ 64 }
