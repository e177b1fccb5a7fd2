use Rattle.std.proofs.Common.{◌-◌, ◌≤◌}
use Rattle.run_tile.specs.Runs.{run_count}
use Rattle.run_tile.specs.Reading.{AreRead}
use Rattle.run_tile.proofs.reading.read_runs.Given as goal

abbrev pub invariant-parts : goal.invariant-parts
invariant-parts l = record { read : AreRead l.kind l.bytes l.cells l.at; inside : l.at.runs ≤ run_count l.kind l.bytes }

abbrev pub decreases-parts : goal.decreases-parts
decreases-parts l = l.runs - l.at.runs
