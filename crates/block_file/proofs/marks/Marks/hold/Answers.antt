-- Each block listed so far has a use more, and where one cannot have it they are given back.
use Rattle.std.proofs.Common.{arith}
use Rattle.block_file.proofs.Markings.{raises_none, raises_more, lowers}
use Rattle.block_file.proofs.Times.{times_at}
use Rattle.block_file.proofs.marks.Marks.hold.Goals as goal

pub loop-i-init : goal.loop-i-init
loop-i-init c = raises_none _

pub hold_one-requires : goal.hold_one-requires
hold_one-requires c = omega (arith, c.requires _ (times_at c.args.ks.now c.loop-i.i (omega arith)), c.loop-i.invariant.uses)

pub give_back-requires : goal.give_back-requires
give_back-requires c =
    let same = c.if-not-hold_one.ensures.same in
    rw same (λ k. omega (arith, c.loop-i.invariant.uses k))

pub returns-then-not-hold_one-clause-same : goal.returns-then-not-hold_one-clause-same
returns-then-not-hold_one-clause-same c =
    let same = c.if-not-hold_one.ensures.same in
    lowers _ _ _ _ c.loop-i.invariant (rw same at c.give_back.ensures.len) (rw same at c.give_back.ensures.marks)

pub loop-i-preserved : goal.loop-i-preserved
loop-i-preserved c =
    let held = c.if-not-hold_one.ensures in
    raises_more c.args.ks.now _ _ _ c.loop-i.i (omega arith) c.loop-i.invariant held.len held.marks held.uses
