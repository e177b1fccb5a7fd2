use Rattle.std.proofs.Common.{◌≡◌, map}
use Rattle.std.specs.List.{range_with_len}
use Rattle.tile_columns.specs.Spots.{spot_at}
use Rattle.tile_columns.proofs.spots.list_spots.Given as goal

abbrev pub invariant-loop-place : goal.invariant-loop-place
invariant-loop-place l = l.spots.items ≡ map (spot_at l.tiles l.ranks) (range_with_len 0 l.place)
