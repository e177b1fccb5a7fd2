use Rattle.std.proofs.Common.{◌≡◌, ◌++◌, ◌<◌, ◌^◌, All, flat_map, length}
use Rattle.tile_index.specs.Bytes.{number_bytes}
use Rattle.tile_index.proofs.reading.read_numbers.Given as goal

abbrev pub invariant-loop : goal.invariant-loop
invariant-loop l = record {
  read : l.initial.bytes ≡ flat_map number_bytes l.numbers ++ l.bytes;
  small : All (λ b. b < 2 ^ 32) l.numbers;
  counted : length l.numbers ≡ l.counter;
}
