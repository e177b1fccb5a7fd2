use Rattle.std.proofs.Common.{◌+◌, ◌≤◌, length}
use Rattle.kvp_front.proofs.cells.commas_in.Given as goal

abbrev pub invariant-bytes : goal.invariant-bytes
invariant-bytes l = l.commas + length l.rest ≤ length l.bytes

abbrev pub decreases-bytes : goal.decreases-bytes
decreases-bytes l = length l.rest
