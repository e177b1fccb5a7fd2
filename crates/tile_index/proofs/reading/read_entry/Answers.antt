-- Where the numbers of the blocks end early, the bytes begin with no entry.
use Rattle.std.proofs.Common.{length, flat_map, ap, sym, ◌∙◌, length-append, arith}
use Rattle.tile_index.specs.Bytes.{number_bytes}
use Rattle.tile_index.proofs.Codes.{two-numbers, length-numbers, same-length, small-length}
use Rattle.tile_index.proofs.reading.read_entry.Goals as goal

pub returns-in_default-read_numbers-clause-damaged : goal.returns-in_default-read_numbers-clause-damaged
returns-in_default-read_numbers-clause-damaged c pair rest v e =
    let two = two-numbers _ _ _ _ _ pair rest c.in-Some.ensures.only c.in-Some-read_u32.ensures.only v e in
    let told = c.parts_of-form.ensures in
    let same = same-length pair.1.form c.parts_of-form.result.0 pair.1.length c.parts_of-form.result.1 (small-length pair.1.form pair.1.length v.1.few) told.small (two.0 ∙ sym told.told) in
    omega (arith, c.in_default-read_numbers.ensures.damaged, v.1.filled, same.1, c.div_ceil.ensures, ap length two.1, length-append (flat_map number_bytes pair.1.blocks) rest, length-numbers pair.1.blocks)
