use Rattle.std.proofs.Common.{◌-◌, ◌≤◌}
use Rattle.run_tile.specs.Picking.{IsStart}
use Rattle.run_tile.proofs.picking.find_run.Given as goal

abbrev pub invariant-runs : goal.invariant-runs
invariant-runs l = record { start : IsStart l.kind l.bytes l.at; before : l.at.cells ≤ l.rank }

abbrev pub decreases-runs : goal.decreases-runs
decreases-runs l = l.runs - l.at.runs
