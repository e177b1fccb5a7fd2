use Rattle.std.proofs.Common.{◌≡◌, ◌+◌, ◌≤◌, List, map, drop}
use Rattle.wcps_types.specs.Typed.{CombinationTree}
use Rattle.wcps_types.specs.Renamed.{combination_view}
use Rattle.wcps_types.specs.Sharing.{AreCounted}
use Rattle.wcps_types.specs.Work.{query_work, max_work, capped}
use Rattle.wcps_types.proofs.effort.combinations_work.Given as goal

abbrev pub invariant-loop-combination : goal.invariant-loop-combination
invariant-loop-combination l = record {
  few : l.total ≤ max_work + 1;
  counted : (trees : List CombinationTree) → AreCounted trees l.makers
      → capped (l.total + query_work (map (combination_view trees) (drop l.combination-index l.combinations))) ≡ capped (query_work (map (combination_view trees) l.combinations));
}
