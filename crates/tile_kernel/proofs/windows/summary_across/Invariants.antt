use Rattle.std.proofs.Common.{◌-◌, ◌≤◌, map}
use Rattle.std.specs.List.{range_with_len}
use Rattle.tile_kernel.specs.Windows.{cell_of}
use Rattle.tile_kernel.proofs.windows.summary_across.Given as goal

abbrev pub invariant-loop-column : goal.invariant-loop-column
invariant-loop-column g l = record {
  kept : g.S.Summary.keeps l.all (map (cell_of l.grid l.row) (range_with_len l.fn.across.from (l.column - l.fn.across.from)));
  within : l.column - l.fn.across.from ≤ l.fn.across.to - l.fn.across.from;
  few : g.S.Summary.counted l.all ≤ l.column - l.fn.across.from;
}
