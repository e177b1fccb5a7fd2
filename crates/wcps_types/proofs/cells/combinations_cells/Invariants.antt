use Rattle.std.proofs.Common.{◌≡◌, ◌+◌, ◌≤◌, List, map, drop}
use Rattle.wcps_types.specs.Typed.{CombinationTree}
use Rattle.wcps_types.specs.Renamed.{combination_view}
use Rattle.wcps_types.specs.Sharing.{AreCounted}
use Rattle.wcps_types.specs.Cells.{result_cells, max_cells, capped_cells}
use Rattle.wcps_types.proofs.cells.combinations_cells.Given as goal

abbrev pub invariant-loop-combination : goal.invariant-loop-combination
invariant-loop-combination l = record {
  few : l.total ≤ max_cells + 1;
  counted : (trees : List CombinationTree) → AreCounted trees l.makers
      → capped_cells (l.total + result_cells (map (combination_view trees) (drop l.combination-index l.combinations))) ≡ capped_cells (result_cells (map (combination_view trees) l.combinations));
}
