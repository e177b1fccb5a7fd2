-- The blocks claimed so far are those listed before, and where one cannot be they are given back.
use Rattle.std.proofs.Common.{arith}
use Rattle.block_file.proofs.Markings.{claims_none, claims_more, cannot_claim, unclaimed}
use Rattle.block_file.proofs.marks.Marks.claim.Goals as goal

pub loop-i-init : goal.loop-i-init
loop-i-init c = claims_none _

pub returns-then-not-claim_one-clause-refused : goal.returns-then-not-claim_one-clause-refused
returns-then-not-claim_one-clause-refused c = cannot_claim c.args.ks.now _ _ c.loop-i.i (omega arith) c.loop-i.invariant c.if-not-claim_one.ensures.refused

pub returns-then-not-claim_one-clause-same : goal.returns-then-not-claim_one-clause-same
returns-then-not-claim_one-clause-same c =
    let same = c.if-not-claim_one.ensures.same in
    unclaimed _ _ _ _ c.loop-i.invariant (rw same at c.give_back.ensures.len) (rw same at c.give_back.ensures.marks)

pub loop-i-preserved : goal.loop-i-preserved
loop-i-preserved c =
    let claimed = c.if-not-claim_one.ensures in
    claims_more c.args.ks.now _ _ _ c.loop-i.i (omega arith) c.loop-i.invariant claimed.above_zero claimed.inside claimed.unmarked claimed.len claimed.marks
