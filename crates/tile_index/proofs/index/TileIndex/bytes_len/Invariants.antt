use Rattle.std.proofs.Common.{◌≡◌, ◌≤◌, ◌+◌, ◌*◌, ℕ, length, sum_by, take}
use Rattle.tile_index.specs.declared.entry.Entry.{Entry}
use Rattle.tile_index.specs.Bytes.{entry_bytes}
use Rattle.tile_index.proofs.index.TileIndex.bytes_len.Given as goal

abbrev pub invariant-loop-tile : goal.invariant-loop-tile
invariant-loop-tile l = record {
  value : l.bytes ≡ 4 + sum_by (λ (x : ℕ × Entry). length (entry_bytes x)) (take l._tile-index l._tile-items);
  small : l.bytes ≤ 4 + 48 * l._tile-index;
}
