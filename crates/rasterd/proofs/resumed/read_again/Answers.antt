-- The call failed too, behind those that were interrupted.
use Rattle.std.proofs.Common.{◌-◌, arith}
use Rattle.rasterd.proofs.ResumingLemmas.{failed_once_more}
use Rattle.rasterd.proofs.resumed.read_again.Goals as goal

pub returns-then-not-is_interrupted-clause-fault : goal.returns-then-not-is_interrupted-clause-fault
returns-then-not-is_interrupted-clause-fault g c =
    failed_once_more _ _ _ (1000 - c.reading.left) (omega (arith, c.reading-test.true)) c.reading.invariant.3 c.in-Err.ensures.told
