-- Zeros behind the bytes that are there fill the last block, so the file is a whole number of blocks.
use Rattle.std.proofs.Common.{◌%◌, arith, refl}
use Rattle.block_file.proofs.Headers.{filled_zeros}
use Rattle.block_file.proofs.block_file.fill_last_block.Goals as goal

pub returns-clause-filled : goal.returns-clause-filled
returns-clause-filled g c = λ honest.
    let count = c.len-length.ensures honest in
    filled_zeros c.len-length.result (c.len-length.result % 4096) 4096 _ _ _ refl count refl (omega arith) (c.in_ok-write_at.ensures.written honest) (omega (arith, c.requires honest, c.clamp-blocks.ensures, c.div_ceil.ensures))
