use Rattle.std.proofs.Common.{◌≡◌, length, map, ◌+ℤ◌, pos}
use Rattle.std.specs.List.{All, range_with_len}
use Rattle.tile_columns.specs.Reaching.{along, reached_by, EndsBy, extent}
use Rattle.tile_columns.proofs.reach.spans_of.Given as goal

abbrev pub invariant-loop-step : goal.invariant-loop-step
invariant-loop-step l = record {
  reached : map (along l.reach.halo.lo) l.spans.items ≡ map (λ k. reached_by l.reach (l.reach.places.lo +ℤ pos k)) (range_with_len 0 l.step);
  within : All (EndsBy (extent l.reach.halo)) l.spans.items;
  many : length l.spans.items ≡ l.step;
}
