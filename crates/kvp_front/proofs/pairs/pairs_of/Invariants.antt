use Rattle.std.proofs.Common.{◌≡◌, ◌++◌, length, map}
use Rattle.kvp_front.specs.Values.{pair_view, pairs_of}
use Rattle.kvp_front.proofs.pairs.pairs_of.Given as goal

abbrev pub invariant-pairs : goal.invariant-pairs
invariant-pairs l = map pair_view l.list.items ++ pairs_of l.rest ≡ pairs_of l.bytes

abbrev pub decreases-pairs : goal.decreases-pairs
decreases-pairs l = length l.rest
