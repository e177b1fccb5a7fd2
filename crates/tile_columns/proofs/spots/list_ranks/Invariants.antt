use Rattle.std.proofs.Common.{◌≡◌, take, map}
use Rattle.tile_columns.specs.declared.spots.Spot.{Spot}
use Rattle.tile_columns.proofs.spots.list_ranks.Given as goal

abbrev pub invariant-loop-spot : goal.invariant-loop-spot
invariant-loop-spot l = l.ranks.items ≡ map (λ (s : Spot). s.rank) (take l.spot-index l.spots)
