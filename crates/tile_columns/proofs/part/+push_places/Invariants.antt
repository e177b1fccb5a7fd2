use Rattle.std.proofs.Common.{◌≡◌, ◌+◌, ◌*◌, ◌++◌, length, map}
use Rattle.std.specs.List.{flat_map, range_with_len}
use Rattle.arr_core.specs.Domains.{points, rank_of}
use Rattle.tile_columns.proofs.part.+push_places.Given as goal

abbrev pub decreases-push_places : goal.decreases-push_places
decreases-push_places l = length l.area.now

abbrev pub invariant-loop-step : goal.invariant-loop-step
invariant-loop-step l = l.list.items ≡ l.fn.list.items ++ flat_map (λ k. map (λ p. (l.first + (l.skipped + k) * l.row) + rank_of l.area_rest p) (points l.part_rest)) (range_with_len 0 l.step)
