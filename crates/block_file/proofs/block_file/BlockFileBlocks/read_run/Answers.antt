-- The bytes of neighbouring blocks are those that the disk holds from the place of the first one on.
use Rattle.std.proofs.Common.{length, arith, refl}
use Rattle.block_file.proofs.Places.{held_blocks, reads_blocks}
use Rattle.block_file.proofs.block_file.BlockFileBlocks.read_run.Goals as goal

pub returns-clause-value : goal.returns-clause-value
returns-clause-value g c = rw (← c.self.view_is) (λ honest. held_blocks _ _ c.args.k (length c.args.bytes.now) (omega arith) c.requires.whole (c.in_ok-read_at.ensures.read honest))

pub returns-in_err-read_at-clause-frame : goal.returns-in_err-read_at-clause-frame
returns-in_err-read_at-clause-frame g c =
    let same = c.in_err-read_at.ensures.same in
    rw (← c.self.view_is) (reads_blocks _ _ c.args.k (length c.args.bytes.now) _ _ (omega arith) c.requires.whole same.same_content same.same_synced refl refl same.same_honest refl refl c.in_err-read_at.ensures.overreads)

pub returns-clause-frame : goal.returns-clause-frame
returns-clause-frame g c =
    let same = c.in_ok-read_at.ensures.same in
    rw (← c.self.view_is) (reads_blocks _ _ c.args.k (length c.args.bytes.now) _ _ (omega arith) c.requires.whole same.same_content same.same_synced refl refl same.same_honest refl refl c.in_ok-read_at.ensures.overreads)
