-- A block in use stays in use, so no other is free than before.
use Rattle.std.proofs.Common.{◌≡◌, get_or, arith}
use Rattle.std.proofs.lemmas.Grind.{common_steps}
use Rattle.block_file.proofs.Markings.{is_used, raised, uses_raised}
use Rattle.block_file.proofs.marks.Marks.hold_one.Goals as goal

pub invariant_of-self : goal.invariant_of-self
invariant_of-self c =
    let some = rw (← c.self.view_is) at c.requires in
    let mark : c.index-mark.result.now ≡ get_or c.self.inside.marks.items c.args.k 0 = grind (arith, common_steps, c.index-mark.ensures, (is_used c.self.inside.marks.items c.args.k some).inside) in
    raised _ _ _ c.args.k _ c.self.invariant some (omega arith) (omega arith)

pub returns-clause-uses : goal.returns-clause-uses
returns-clause-uses c =
    let some = rw (← c.self.view_is) at c.requires in
    let mark : c.index-mark.result.now ≡ get_or c.self.inside.marks.items c.args.k 0 = grind (arith, common_steps, c.index-mark.ensures, (is_used c.self.inside.marks.items c.args.k some).inside) in
    rw (← c.self.view_is) (uses_raised _ c.args.k _ some (omega arith) (omega arith))
