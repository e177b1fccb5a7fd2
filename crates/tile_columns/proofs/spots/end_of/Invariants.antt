use Rattle.std.proofs.Common.{◌≡◌, ℕ, ◌<◌, ◌≤◌}
use Rattle.std.specs.Prelude.{slice_index_or}
use Rattle.tile_columns.specs.Spots.{tiles_in}
use Rattle.tile_columns.proofs.spots.end_of.Given as goal

abbrev pub invariant-loop-place : goal.invariant-loop-place
invariant-loop-place l = (k : ℕ) → l.from ≤ k → k < l.place → slice_index_or (tiles_in l.spots) k 0 ≡ l.tile
