use Rattle.std.proofs.Common.{◌≡◌, take}
use Rattle.tile_index.proofs.index.TileIndex.copy.Given as goal

abbrev pub invariant-loop-tile : goal.invariant-loop-tile
invariant-loop-tile l = l.entries.items ≡ take l.tile-index l.tile-items
