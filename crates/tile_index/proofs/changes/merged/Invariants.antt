use Rattle.std.proofs.Common.{◌+◌, ◌≤◌, reverse, vec_len, vec_capacity}
use Rattle.tile_index.proofs.Merging.{IsMerging}
use Rattle.tile_index.proofs.changes.merged.Given as goal

abbrev pub invariant-loop-tile : goal.invariant-loop-tile
invariant-loop-tile l = record {
  merging : IsMerging l.fn.changes.items l.fn.entries.items l.changes.items l.entries.items (reverse l.room.items);
  room : vec_len l.entries + vec_len l.changes + vec_len l.room ≤ vec_capacity l.room;
}

abbrev pub decreases-loop-tile : goal.decreases-loop-tile
decreases-loop-tile l = vec_len l.changes
