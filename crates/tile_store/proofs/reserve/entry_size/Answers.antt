-- An entry has a block at least, so its bytes are those of as many blocks.
use Rattle.std.proofs.Common.{ap, arith, option_copied}
use Rattle.tile_index.proofs.Codes.{entry_length}
use Rattle.tile_store.specs.Room.{entry_blocks, listed_bytes}
use Rattle.tile_store.proofs.Sizes.{entry_bytes_are}
use Rattle.tile_store.proofs.reserve.entry_size.Goals as goal

pub returns-in-Some-clause-value : goal.returns-in-Some-clause-value
returns-in-Some-clause-value c =
    let e = c.in-Some.entry.now in
    let some = ap option_copied c.in-Some.is in
    let listed = entry_bytes_are e (c.requires e some) in
    let here = ap (λ o. listed_bytes (entry_blocks o)) some in
    omega (arith, c.bytes_len.ensures.value 0, entry_length (0, e), listed, here)
