use Rattle.std.proofs.Common.{◌≤◌}
use Rattle.kvp_front.proofs.cells.commas_among.Given as goal

abbrev pub invariant-loop-byte : goal.invariant-loop-byte
invariant-loop-byte l = l.commas ≤ l.byte-index
