-- The free blocks passed so far are those taken, lowest first, and none below the place reached is free.
use Rattle.std.proofs.Common.{arith}
use Rattle.std.proofs.lemmas.Grind.{common_steps}
use Rattle.block_file.proofs.Markings.{taken_none, taken_all, taken_more, below_taken, below_more}
use Rattle.block_file.proofs.marks.pick.Goals as goal
use Rattle.block_file.proofs.marks.pick.Goals.{then-is_free+in-Ok, else-is_free}

pub loop-k-init : goal.loop-k-init
loop-k-init c = record { taken = rw c.requires.empty (taken_none _); below = c.requires.below; most = rw c.requires.empty (omega arith); room = c.requires.room }

pub loop-k-preserved : goal.loop-k-preserved
loop-k-preserved c =
    let p = c.loop-k.invariant in
    elim c.if-is_free.branch [
      | then-is_free+in-Ok w ↦ rw (w.marks-is, w.ks-is) (record {
        taken = rw w.in-Ok.ensures.items (taken_more _ _ _ _ p.taken p.below (omega arith) (c.is_free.ensures.0 w.if-is_free.true));
        below = below_taken _ _ p.below (omega arith);
        most = rw w.in-Ok.ensures.items (grind (arith, common_steps));
        room = omega (arith, p.room, w.in-Ok.ensures.capacity);
      })
      | else-is_free w ↦ rw (w.marks-is, w.ks-is) (record {
        taken = p.taken;
        below = below_more _ _ p.below (omega arith) (λ e. let free = c.is_free.ensures.1 e in let used = w.if-is_free.false in cc);
        most = p.most;
        room = p.room;
      })
    ]

pub returns-clause-count : goal.returns-clause-count
returns-clause-count c = omega (arith, taken_all _ _ _ _ _ c.loop-k.invariant.taken c.loop-k.invariant.below (omega arith) c.requires.enough)
