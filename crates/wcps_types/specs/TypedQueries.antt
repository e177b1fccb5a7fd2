-- Typed queries as values alone.
use Rattle.std.specs.Prelude.{List, map}
use Rattle.wcps_text.specs.Tree as tree
use Rattle.wcps_types.specs.declared.typed_query.TypedQuery.{TypedQuery}
use Rattle.wcps_types.specs.Typed.{CombinationTree, TypedTree}
use Rattle.wcps_types.specs.Renamed.{combination_view}
use Rattle.wcps_types.specs.Sharing.{trees_of}

-- the trees over the variables
abbrev pub trees_in : TypedQuery → List CombinationTree
trees_in q = trees_of q.coverages.items (tree.query_view q.query) q.variables.list.items q.makers.items

-- the coverages, and the combinations in order
abbrev pub query_view : TypedQuery → TypedTree
query_view q = record {
  coverages = q.coverages.items;
  combinations =
      map (combination_view (trees_in q)) q.combinations.items;
}
