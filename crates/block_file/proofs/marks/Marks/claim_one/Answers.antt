-- A block without a mark is free, so there is one to count off, and one fewer afterwards.
use Rattle.std.proofs.Common.{rules, arith}
use Rattle.block_file.proofs.Markings.{claimed}
use Rattle.block_file.proofs.marks.Marks.claim_one.Goals as goal

pub overflow_sub-self : goal.overflow_sub-self
overflow_sub-self c = (claimed _ _ _ c.args.k c.self.invariant (omega arith) (search rules)).0

pub invariant_of-self : goal.invariant_of-self
invariant_of-self c = (claimed _ _ _ c.args.k c.self.invariant (omega arith) (search rules)).1
