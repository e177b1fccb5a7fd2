use Rattle.std.proofs.Common.{◌-◌, ◌<◌, ◌≤◌}
use Rattle.run_tile.specs.Reading.{AreRead}
use Rattle.run_tile.proofs.reading.read_few.Given as goal

abbrev pub invariant-few : goal.invariant-few
invariant-few l = record { read : AreRead l.kind l.bytes l.cells l.at; further : l.fn.from.runs ≤ l.at.runs; begun : l.at.runs ≤ l.fn.from.runs → l.at.runs < l.end; inside : l.at.runs ≤ l.end }

abbrev pub decreases-few : goal.decreases-few
decreases-few l = l.end - l.at.runs
