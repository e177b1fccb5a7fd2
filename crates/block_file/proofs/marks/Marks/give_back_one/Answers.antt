-- A block that loses its last use is free, and is then the lowest if it lies below that.
use Rattle.std.proofs.Common.{◌≡◌, get_or, arith, rules}
use Rattle.std.proofs.lemmas.Grind.{common_steps}
use Rattle.block_file.proofs.Markings.{is_used, lowered}
use Rattle.block_file.proofs.Free.{free_le}
use Rattle.block_file.proofs.marks.Marks.give_back_one.Goals as goal

pub invariant_of-self : goal.invariant_of-self
invariant_of-self c =
    let some = rw (← c.self.view_is) at c.requires in
    let u = is_used c.self.inside.marks.items c.args.k some in
    let mark : c.index.result.now ≡ get_or c.self.inside.marks.items c.args.k 0 = grind (arith, common_steps, c.index.ensures, (is_used c.self.inside.marks.items c.args.k some).inside) in
    let min = c.min-self-inside.ensures in
    lowered _ _ _ _ _ c.args.k _ c.self.invariant some (omega arith) (omega arith) (omega (arith, c.self.invariant.below.above_zero)) (omega arith) (λ lt. absurd (omega arith))

pub invariant_of-self-else-mark-eq0 : goal.invariant_of-self-else-mark-eq0
invariant_of-self-else-mark-eq0 c =
    let some = rw (← c.self.view_is) at c.requires in
    let mark : c.index.result.now ≡ get_or c.self.inside.marks.items c.args.k 0 = grind (arith, common_steps, c.index.ensures, (is_used c.self.inside.marks.items c.args.k some).inside) in
    lowered _ _ _ _ _ c.args.k _ c.self.invariant some (omega arith) (omega arith) c.self.invariant.below.above_zero (omega arith) (λ lt. omega arith)

pub index-requires : goal.index-requires
index-requires c = grind (arith, common_steps)

pub index_mut-requires : goal.index_mut-requires
index_mut-requires c = grind (arith, common_steps)

pub returns-then-mark-eq0-clause-marks : goal.returns-then-mark-eq0-clause-marks
returns-then-mark-eq0-clause-marks c = grind (arith, common_steps)

pub returns-else-mark-eq0-clause-marks : goal.returns-else-mark-eq0-clause-marks
returns-else-mark-eq0-clause-marks c = grind (arith, common_steps)

pub overflow_add-self : goal.overflow_add-self
overflow_add-self c = grind (arith, free_le)

pub overflow_sub-mark : goal.overflow_sub-mark
overflow_sub-mark c = search rules

pub returns-then-mark-eq0-clause-len : goal.returns-then-mark-eq0-clause-len
returns-then-mark-eq0-clause-len c = search rules

pub returns-else-mark-eq0-clause-len : goal.returns-else-mark-eq0-clause-len
returns-else-mark-eq0-clause-len c = search rules
