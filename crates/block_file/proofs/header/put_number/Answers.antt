-- A number written into a part of the bytes stands at that part's place, and all other bytes stay.
use Rattle.std.proofs.Common.{◌-◌, ◌+◌, arith}
use Rattle.std.proofs.lemmas.Grind.{common_steps}
use Rattle.block_file.proofs.Numbers.{number-put}
use Rattle.block_file.proofs.header.put_number.Goals as goal

pub returns : goal.returns
returns c =
    number-put c.args.at (c.args.at + c.args.width - c.args.at) c.args.width c.args.n c.args.bytes.now _ _ (omega arith) (omega arith) (grind (arith, common_steps)) c.requires.fits c.write_uint.ensures
