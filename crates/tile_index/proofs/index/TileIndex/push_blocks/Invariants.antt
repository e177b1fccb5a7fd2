use Rattle.std.proofs.Common.{◌≡◌, ◌++◌, ℕ, flat_map, take}
use Rattle.tile_index.specs.declared.entry.Entry.{Entry}
use Rattle.tile_index.proofs.index.TileIndex.push_blocks.Given as goal

abbrev pub invariant-loop-tile : goal.invariant-loop-tile
invariant-loop-tile l = l.blocks.items ≡ l.fn.blocks.items ++ flat_map (λ (x : ℕ × Entry). x.1.blocks) (take l._tile-index l._tile-items)
