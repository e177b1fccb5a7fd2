-- Behind the magic the bytes are those of a block of zeros.
use Rattle.std.proofs.Common.{arith}
use Rattle.std.proofs.lemmas.Grind.{common_steps}
use Rattle.block_file.proofs.Numbers.{zeros_after}
use Rattle.block_file.proofs.header.blank_header.Goals as goal

pub returns-clause-zeros : goal.returns-clause-zeros
returns-clause-zeros c = λ i le. zeros_after c.copy_from_slice.new.self 4096 8 i (grind (arith, common_steps)) le
