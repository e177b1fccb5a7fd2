-- The number read from the rest of the bytes is that of the four at their place.
use Rattle.std.proofs.Common.{sym, ◌∙◌}
use Rattle.block_file.proofs.Numbers.{number_cut}
use Rattle.block_file.proofs.header.u32_at.Goals as goal

pub returns : goal.returns
returns c = c.read_u32.ensures ∙ sym (number_cut c.args.at 4 c.args.bytes.now c.requires)
