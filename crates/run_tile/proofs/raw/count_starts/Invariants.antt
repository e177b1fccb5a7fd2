use Rattle.std.proofs.Common.{◌-◌, ◌≡◌, ◌+◌, ◌≤◌}
use Rattle.run_tile.specs.Raw.{runs_from}
use Rattle.run_tile.proofs.raw.count_starts.Given as goal

-- the values before this place that repeat the one before them, and the runs of the values from the one before it on
abbrev pub invariant-loop-place : goal.invariant-loop-place
invariant-loop-place l = record { counted : l.repeats + runs_from l.fn.kind l.fn.bytes (l.fn.from - 1) ≡ l.place - l.fn.from + runs_from l.fn.kind l.fn.bytes (l.place - 1); few : l.repeats + l.fn.from ≤ l.place }
