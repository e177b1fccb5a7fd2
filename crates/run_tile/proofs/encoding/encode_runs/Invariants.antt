use Rattle.std.proofs.Common.{◌-◌, ◌≤◌, length}
use Rattle.run_tile.proofs.Pushes.{IsWritten}
use Rattle.run_tile.proofs.encoding.encode_runs.Given as goal

abbrev pub invariant-loop-at : goal.invariant-loop-at
invariant-loop-at l = record { written : IsWritten l.kind l.cells l.bytes.items l.at; short : length l.bytes.items ≤ l.most }

abbrev pub decreases-loop-at : goal.decreases-loop-at
decreases-loop-at l = length l.cells - l.at
