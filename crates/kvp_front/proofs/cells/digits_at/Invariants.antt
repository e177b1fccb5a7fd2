use Rattle.kvp_front.specs.Front.{WritesNumber}
use Rattle.kvp_front.proofs.cells.digits_at.Given as goal

abbrev pub invariant-loop-count : goal.invariant-loop-count
invariant-loop-count l = WritesNumber l.bytes l.number l.count
