-- Each field stands at its place, since those put after it change no byte of it, and all else is zero.
use Rattle.std.proofs.Common.{arith}
use Rattle.block_file.proofs.Headers.{header_made}
use Rattle.block_file.proofs.header.header_bytes.Goals as goal

pub returns : goal.returns
returns c =
    let made = header_made c.args.state c.args.blocks c.args.first c.args.length _ _ _ _ _ _ (omega arith) c.blank_header-bytes.ensures.magic c.blank_header-bytes.ensures.zeros c.put_number.ensures (rw (← c.number.ensures) c.put_number-2.ensures) c.put_number-3.ensures c.put_number-4.ensures c.put_number-5.ensures in
    record { header = made.0; version = made.1 }
