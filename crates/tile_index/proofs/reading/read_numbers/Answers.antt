-- Bytes that end before the last number are too few for all of them.
use Rattle.std.proofs.Common.{ap, length, flat_map, arith, length-append}
use Rattle.tile_index.specs.Bytes.{number_bytes}
use Rattle.tile_index.proofs.Codes.{length-numbers}
use Rattle.tile_index.proofs.reading.read_numbers.Goals as goal

pub returns-in_default-clause-damaged : goal.returns-in_default-clause-damaged
returns-in_default-clause-damaged c =
    omega (arith, ap length c.loop.invariant.read, length-append (flat_map number_bytes c.loop.numbers) c.loop.bytes, length-numbers c.loop.numbers, c.loop.invariant.counted, c.in_default.ensures.read, c.loop-test.true)
