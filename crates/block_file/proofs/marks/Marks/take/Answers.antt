-- What was picked are the lowest free blocks, so as many fewer are free, and those behind the marks stay.
use Rattle.std.proofs.Common.{arith, length, drop, take_at, rules}
use Rattle.std.proofs.lemmas.Grind.{common_steps}
use Rattle.block_file.proofs.Markings.{taken_marks, free_inside}
use Rattle.block_file.proofs.marks.Marks.take.Goals as goal

pub invariant_of-self : goal.invariant_of-self
invariant_of-self c =
    let pick = c.pick-self-inside.ensures in
    let taken = rw c.deref_mut.ensures.value at pick.taken in
    rw (take_at c.pick-self-inside.new.marks (drop (length c.pick-self-inside.new.marks) c.self.inside.marks.items) c.self.inside.marks.len (omega (arith, taken.blocks)), ← pick.count) (taken_marks _ _ _ _ _ _ c.self.invariant taken pick.below)

pub returns-clause-taken : goal.returns-clause-taken
returns-clause-taken c = grind (arith, common_steps)

pub overflow_sub-self : goal.overflow_sub-self
overflow_sub-self c = grind (arith, free_inside)

pub pick-self-inside-requires-clause-below : goal.pick-self-inside-requires-clause-below
pick-self-inside-requires-clause-below c = search rules

pub pick-self-inside-requires-clause-few : goal.pick-self-inside-requires-clause-few
pick-self-inside-requires-clause-few c = search rules

pub pick-self-inside-requires-clause-enough : goal.pick-self-inside-requires-clause-enough
pick-self-inside-requires-clause-enough c = search rules

pub pick-self-inside-requires-clause-room : goal.pick-self-inside-requires-clause-room
pick-self-inside-requires-clause-room c = search rules

pub pick-self-inside-requires-clause-empty : goal.pick-self-inside-requires-clause-empty
pick-self-inside-requires-clause-empty c = search rules

pub returns-clause-count : goal.returns-clause-count
returns-clause-count c = search rules
