-- The bytes of a block are those that the disk holds at its place.
use Rattle.std.proofs.Common.{arith, refl}
use Rattle.block_file.proofs.Places.{held_block, reads_block}
use Rattle.block_file.proofs.block_file.BlockFileBlocks.read.Goals as goal

pub returns-clause-value : goal.returns-clause-value
returns-clause-value g c = rw (← c.self.view_is) (λ honest. held_block _ _ c.args.k (omega arith) (c.in_ok-read_at.ensures.read honest))

pub returns-in_err-read_at-clause-frame : goal.returns-in_err-read_at-clause-frame
returns-in_err-read_at-clause-frame g c =
    let same = c.in_err-read_at.ensures.same in
    rw (← c.self.view_is) (reads_block _ _ c.args.k _ _ _ (omega arith) same.same_content same.same_synced refl refl same.same_honest refl refl c.in_err-read_at.ensures.overreads)

pub returns-clause-frame : goal.returns-clause-frame
returns-clause-frame g c =
    let same = c.in_ok-read_at.ensures.same in
    rw (← c.self.view_is) (reads_block _ _ c.args.k _ _ _ (omega arith) same.same_content same.same_synced refl refl same.same_honest refl refl c.in_ok-read_at.ensures.overreads)
