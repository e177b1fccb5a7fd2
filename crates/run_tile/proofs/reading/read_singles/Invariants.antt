use Rattle.std.proofs.Common.{◌+◌}
use Rattle.run_tile.specs.Reading.{AreRead}
use Rattle.run_tile.proofs.reading.read_singles.Given as goal

-- so many runs of one cell were read
abbrev pub invariant-loop-k : goal.invariant-loop-k
invariant-loop-k l = AreRead l.kind l.bytes l.cells (record { runs = l.at.runs + l.k; cells = l.at.cells + l.k; last = l.last })
