use Rattle.std.proofs.Common.{◌≡◌, ◌≢◌, ◌++◌, ◌+◌, ◌≤◌, ℕ, reverse, vec_len, vec_capacity}
use Rattle.tile_index.specs.Index.{found_at}
use Rattle.tile_index.specs.Moves.{AreApart}
use Rattle.tile_index.proofs.changes.move_after.Given as goal

abbrev pub invariant-loop-pair : goal.invariant-loop-pair
invariant-loop-pair l = record {
  apart : AreApart l.tile l.entries.items (reverse l.moved.items);
  same : (t : ℕ) → t ≢ l.tile → found_at t (l.entries.items ++ reverse l.moved.items) ≡ found_at t (l.initial.entries.items ++ reverse l.initial.moved.items);
  room : (vec_len l.entries + vec_len l.moved ≤ vec_len l.initial.entries + vec_len l.initial.moved) × (vec_capacity l.initial.moved ≤ vec_capacity l.moved);
}

abbrev pub decreases-loop-pair : goal.decreases-loop-pair
decreases-loop-pair l = vec_len l.entries
