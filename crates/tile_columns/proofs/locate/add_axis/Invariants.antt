use Rattle.std.proofs.Common.{◌≡◌, ℕ, ◌<◌, ◌≤◌, get_or, pos}
use Rattle.arr_core.specs.Domains.{gap}
use Rattle.tile_columns.specs.Locating.{tile_on, rank_on}
use Rattle.tile_columns.proofs.locate.add_axis.Given as goal

abbrev pub invariant-loop-place : goal.invariant-loop-place
invariant-loop-place l = record {
  tiles : (k : ℕ) → k < l.place → get_or l.numbers k 0 ≡ tile_on l.along.edge l.along.last (get_or l.fn.tiles.items k 0) (gap l.along.lo (get_or l.coordinates k (pos 0)));
  ranks : (k : ℕ) → k < l.place → get_or l.within k 0 ≡ rank_on l.along.edge l.along.last (get_or l.fn.ranks.items k 0) (gap l.along.lo (get_or l.coordinates k (pos 0)));
  tiles_left : (k : ℕ) → l.place ≤ k → get_or l.numbers k 0 ≡ get_or l.fn.tiles.items k 0;
  ranks_left : (k : ℕ) → l.place ≤ k → get_or l.within k 0 ≡ get_or l.fn.ranks.items k 0;
}
