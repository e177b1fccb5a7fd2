use Rattle.std.proofs.Common.{◌-◌, ◌*◌, ◌≤◌, get_or}
use Rattle.std.specs.List.{flat_map, range_with_len}
use Rattle.tile_kernel.specs.Windows.{cells_across}
use Rattle.tile_kernel.proofs.windows.window_outcome.Given as goal

abbrev pub invariant-loop-row : goal.invariant-loop-row
invariant-loop-row g l = record {
  kept : g.S.Summary.keeps l.all (flat_map (cells_across l.fn.grid (get_or l.across l.place l.fn.down)) (range_with_len l.fn.down.from (l.row - l.fn.down.from)));
  within : l.row - l.fn.down.from ≤ l.fn.down.to - l.fn.down.from;
  few : g.S.Summary.counted l.all ≤ (l.row - l.fn.down.from) * l.fn.grid.width;
}
