-- A write to a block changes the bytes of that block alone, whether it is done or torn.
use Rattle.std.proofs.Common.{sym, refl, arith, rules}
use Rattle.std.proofs.lemmas.Grind.{common_steps}
use Rattle.block_file.proofs.Markings.{is_used}
use Rattle.block_file.proofs.Places.{held_block, kept_blocks, same_overreads, write_moves}
use Rattle.block_file.proofs.block_file.BlockFileBlocks.write.Goals as goal

pub returns-clause-written : goal.returns-clause-written
returns-clause-written g c = rw (← c.self.view_is) (λ honest. sym (held_block _ _ c.args.k (omega arith) (c.in_ok-write_at.ensures.written honest).holds))

pub returns-in_err-write_at-clause-others : goal.returns-in_err-write_at-clause-others
returns-in_err-write_at-clause-others g c = rw (← c.self.view_is) (kept_blocks _ _ c.args.k _ (omega arith) c.in_err-write_at.ensures.torn)

pub returns-clause-others : goal.returns-clause-others
returns-clause-others g c = rw (← c.self.view_is) (kept_blocks _ _ c.args.k _ (omega arith) c.in_ok-write_at.ensures.torn)

pub returns-in_err-write_at-clause-frame : goal.returns-in_err-write_at-clause-frame
returns-in_err-write_at-clause-frame g c =
    let once = rw (← c.self.view_is) at c.requires in
    rw (← c.self.view_is) (write_moves _ _ c.args.k _ (omega arith) refl refl c.in_err-write_at.ensures.honest
    (same_overreads _ _ _ _ c.in_err-write_at.ensures.honest (λ h. c.in_err-write_at.ensures.overreads)) once (is_used c.self.inside.marks c.args.k (omega arith)).above_zero c.in_err-write_at.ensures.torn)

pub returns-clause-frame : goal.returns-clause-frame
returns-clause-frame g c =
    let once = rw (← c.self.view_is) at c.requires in
    rw (← c.self.view_is) (write_moves _ _ c.args.k _ (omega arith) refl refl c.in_ok-write_at.ensures.honest
    (same_overreads _ _ _ _ c.in_ok-write_at.ensures.honest (λ h. c.in_ok-write_at.ensures.overreads)) once (is_used c.self.inside.marks c.args.k (omega arith)).above_zero c.in_ok-write_at.ensures.torn)

pub invariant_of-self : goal.invariant_of-self
invariant_of-self g c = grind (arith, common_steps)

pub invariant_of-self-2 : goal.invariant_of-self-2
invariant_of-self-2 g c = grind (arith, common_steps)

pub overflow_mul-k : goal.overflow_mul-k
overflow_mul-k g c = search rules

pub returns-in_err-write_at-clause-written : goal.returns-in_err-write_at-clause-written
returns-in_err-write_at-clause-written g c = search rules

pub returns-in_err-write_at-clause-torn : goal.returns-in_err-write_at-clause-torn
returns-in_err-write_at-clause-torn g c = search rules

pub returns-in_err-write_at-clause-torn_synced : goal.returns-in_err-write_at-clause-torn_synced
returns-in_err-write_at-clause-torn_synced g c = search rules

pub returns-in_err-write_at-clause-told : goal.returns-in_err-write_at-clause-told
returns-in_err-write_at-clause-told g c = search rules

pub returns-clause-torn : goal.returns-clause-torn
returns-clause-torn g c = search rules

pub returns-clause-torn_synced : goal.returns-clause-torn_synced
returns-clause-torn_synced g c = search rules

pub returns-clause-told : goal.returns-clause-told
returns-clause-told g c = search rules
