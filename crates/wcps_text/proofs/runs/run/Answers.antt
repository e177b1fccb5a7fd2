-- All bytes that were counted are of the class, and the last of them is ASCII.
use Rattle.std.proofs.Common.{◌≡◌, ◌+◌, ◌-◌, arith, refl}
use Rattle.std.proofs.lemmas.Grind.{common_steps}
use Rattle.wcps_text.proofs.Bytes.{every_more}
use Rattle.wcps_text.proofs.runs.run.Goals as goal

pub loop-count-preserved : goal.loop-count-preserved
loop-count-preserved c =
    let e : c.loop-count.count + 1 - 1 ≡ c.loop-count.count = omega arith in
    record {
      within = omega arith;
      last = λ lt. rw e (c.is_of.ensures.ascii (rw c.if-is_of.true refl));
      front = every_more _ _ c.loop-count.count _ 0 (omega arith) (omega arith) c.loop-count.invariant.front (rw (← c.is_of.ensures.value, c.if-is_of.true) refl);
    }

pub returns-else-is_of-clause-stops : goal.returns-else-is_of-clause-stops
returns-else-is_of-clause-stops c = grind (arith, common_steps)

pub returns-after-loop-count-clause-stops : goal.returns-after-loop-count-clause-stops
returns-after-loop-count-clause-stops c = grind (arith, common_steps)
