-- The call failed too, behind those that were interrupted.
use Rattle.std.proofs.Common.{◌-◌, arith}
use Rattle.rasterd.proofs.ResumingLemmas.{failed_once_more}
use Rattle.rasterd.proofs.resumed.hand_on_again.Goals as goal

pub returns-then-not-is_interrupted-clause-fault : goal.returns-then-not-is_interrupted-clause-fault
returns-then-not-is_interrupted-clause-fault g c =
    failed_once_more _ _ _ (1000 - c.handing.left) (omega (arith, c.handing-test.true)) c.handing.invariant.3 c.in-Err.ensures.told
