use Rattle.std.proofs.Common.{◌≡◌, ◌≤◌, ◌*◌, ℕ, take, Option, sum_by}
use Rattle.tile_index.specs.declared.entry.Entry.{Entry}
use Rattle.tile_store.specs.Room.{listed_bytes, entry_blocks}
use Rattle.tile_store.proofs.reserve.changes_size.Given as goal

abbrev pub invariant-loop-tile : goal.invariant-loop-tile
invariant-loop-tile l = record {
  value : l.size ≡ sum_by (λ (x : ℕ × Option Entry). listed_bytes (entry_blocks x.1)) (take l._tile-index l.changes);
  small : l.size ≤ 48 * l._tile-index;
}
