use Rattle.std.proofs.Common.{◌≡◌, map, drop, length}
use Rattle.wcps_text.specs.Tree.{query_view}
use Rattle.wcps_types.specs.Renamed.{combination_view}
use Rattle.wcps_types.specs.Bindings.{choice_view, combinations}
use Rattle.wcps_types.specs.Sharing.{HaveTrees}
use Rattle.wcps_types.specs.Sources.{typed_each}
use Rattle.wcps_types.specs.Kept.{IsMaking, trees_made}
use Rattle.wcps_types.specs.Queries.{typ_each}
use Rattle.wcps_types.proofs.query.each_combination.Given as goal

abbrev pub invariant-loop-number : goal.invariant-loop-number
invariant-loop-number l = record {
  making : IsMaking l.source l.making;
  there : HaveTrees (length (trees_made l.source l.making)) l.combinations.items;
  each : typ_each l.source.coverages.now (query_view l.source.query.now) (map (combination_view (trees_made l.source l.making)) l.combinations.items) (drop l.number (combinations (map choice_view l.choices)))
      ≡ typed_each l.source (map choice_view l.choices);
}
