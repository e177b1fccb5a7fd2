use Rattle.std.proofs.Common.{◌≡◌, ◌≤◌, ◌*◌, take, sum_by}
use Rattle.tile_index.specs.Index.{found_at}
use Rattle.tile_store.specs.Room.{listed_bytes, entry_blocks}
use Rattle.tile_store.proofs.reserve.listed_size.Given as goal

abbrev pub invariant-loop-tile : goal.invariant-loop-tile
invariant-loop-tile l = record {
  value : l.size ≡ sum_by (λ t. listed_bytes (entry_blocks (found_at t l.index))) (take l.tile-index l.tiles);
  small : l.size ≤ 48 * l.tile-index;
}
