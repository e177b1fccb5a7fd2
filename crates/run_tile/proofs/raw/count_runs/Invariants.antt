use Rattle.std.proofs.Common.{◌-◌, ◌≡◌, ◌+◌, ◌≤◌}
use Rattle.run_tile.specs.Runs.{runs_in}
use Rattle.run_tile.specs.Raw.{raw_cells, runs_from}
use Rattle.run_tile.proofs.raw.count_runs.Given as goal

-- those that begin before this place, and those of the values from the one before it on, of which one has begun before
abbrev pub invariant-loop-at : goal.invariant-loop-at
invariant-loop-at l = record {
  counted : l.runs + runs_from l.fn.kind l.fn.bytes (l.at - 1) ≡ runs_in (raw_cells l.fn.kind l.fn.bytes) + 1;
  few : l.runs ≤ l.at;
  begun : 1 ≤ l.runs;
  some : 1 ≤ l.at;
  within : l.at ≤ l.count;
}

abbrev pub decreases-loop-at : goal.decreases-loop-at
decreases-loop-at l = l.count - l.at
