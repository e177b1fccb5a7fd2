-- A block that holds metadata is as free as it was without a mark.
use Rattle.std.proofs.Common.{rules, arith}
use Rattle.block_file.proofs.Markings.{unmarked, marked}
use Rattle.block_file.proofs.marks.Marks.keep.Goals as goal

pub invariant_of-self : goal.invariant_of-self
invariant_of-self c =
    let u = unmarked c.self.inside.marks.items _ _ c.args.k c.self.invariant (search rules) in
    marked _ _ _ _ _ c.args.k _ c.self.invariant u.0 (omega arith) (omega (arith, u.1)) c.self.invariant.below.above_zero (omega arith) (λ lt. absurd (omega (arith, u.2)))
