use Rattle.std.proofs.Common.{◌≡◌, ◌++◌, ◌+◌, ◌≤◌, reverse, vec_len, vec_capacity}
use Rattle.tile_index.proofs.changes.move_all.Given as goal

abbrev pub invariant-loop-pair : goal.invariant-loop-pair
invariant-loop-pair l = record {
  moved : l.entries.items ++ reverse l.moved.items ≡ l.initial.entries.items ++ reverse l.initial.moved.items;
  room : vec_len l.entries + vec_len l.moved ≤ vec_capacity l.moved;
}

abbrev pub decreases-loop-pair : goal.decreases-loop-pair
decreases-loop-pair l = vec_len l.entries
