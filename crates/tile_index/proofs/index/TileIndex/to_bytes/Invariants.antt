use Rattle.std.proofs.Common.{◌≡◌, ◌++◌, flat_map, length, take}
use Rattle.tile_index.specs.Bytes.{number_bytes, entry_bytes}
use Rattle.tile_index.proofs.index.TileIndex.to_bytes.Given as goal

abbrev pub invariant-loop-tile : goal.invariant-loop-tile
invariant-loop-tile l = l.bytes.items ≡ number_bytes (length l.entries) ++ flat_map entry_bytes (take l.tile-index l.entries)
