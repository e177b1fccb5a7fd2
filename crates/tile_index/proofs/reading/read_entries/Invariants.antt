use Rattle.std.proofs.Common.{◌≡◌, ◌++◌, ◌<◌, ◌≤◌, ℕ, flat_map, length, All}
use Rattle.tile_index.specs.declared.entry.Entry.{Entry}
use Rattle.tile_index.specs.Index.{IsPair}
use Rattle.tile_index.specs.Moves.{IsBetween}
use Rattle.tile_index.specs.Bytes.{entry_bytes}
use Rattle.tile_index.proofs.reading.read_entries.Given as goal

-- `after` is the first number after all tiles
abbrev pub invariant-loop : goal.invariant-loop
invariant-loop l = record {
  read : l.initial.bytes ≡ flat_map entry_bytes l.entries.items ++ l.bytes;
  counted : length l.entries.items ≡ l.counter;
  each : All IsPair l.entries.items;
  between : IsBetween 0 l.entries.items l.after;
  least : (n : ℕ) → All (λ (x : ℕ × Entry). x.0 < n) l.entries.items → l.after ≤ n;
}
