use Rattle.std.proofs.Common.{◌≡◌, ℕ, take}
use Rattle.block_file.specs.State.{times}
use Rattle.tile_store.specs.Listing.{listed_for}
use Rattle.tile_store.proofs.update.listed_blocks.Given as goal

abbrev pub invariant-loop-tile : goal.invariant-loop-tile
invariant-loop-tile l = (k : ℕ) → times l.blocks.items k ≡ listed_for l.index (take l.tile-index l.tiles) k
