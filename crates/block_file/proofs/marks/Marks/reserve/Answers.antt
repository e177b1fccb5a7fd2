-- New marks are of blocks past the last, which were free before and are counted as such.
use Rattle.std.proofs.Common.{◌+◌, arith, rules}
use Rattle.block_file.proofs.Markings.{free_inside, grown}
use Rattle.block_file.proofs.marks.Marks.reserve.Goals as goal

pub overflow_sub-inside-2 : goal.overflow_sub-inside-2
overflow_sub-inside-2 c = omega (arith, free_inside)

pub overflow_add-len : goal.overflow_add-len
overflow_add-len c = let few = rw (← c.self.view_is) at c.requires in omega (arith, free_inside)

pub invariant_of-self-2 : goal.invariant_of-self-2
invariant_of-self-2 c =
    let few = rw (← c.self.view_is) at c.requires in
    (grown c.self.inside.marks.items _ _ _ c.self.inside.marks.len (c.len-2.result + c.saturating_sub.result) c.self.invariant (omega arith) c.in_ok-resize.ensures.items
    (omega arith) (omega (arith, free_inside))).are

pub returns : goal.returns
returns c =
    let few = rw (← c.self.view_is) at c.requires in
    let g = grown c.self.inside.marks.items _ _ _ c.self.inside.marks.len (c.len-2.result + c.saturating_sub.result) c.self.invariant (omega arith) c.in_ok-resize.ensures.items (omega arith) (omega (arith, free_inside)) in
    let some = g.are.below.within in
    rw (← c.self.view_is) (record {
      uses = g.uses;
      no_shorter = omega (arith, g.count);
      enough = omega (arith, g.are, free_inside);
      few = g.are.few;
      refused = search rules;
    })
