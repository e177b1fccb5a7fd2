-- What is said of a source: of its query, its coverages and its variables.
use Rattle.std.specs.Prelude.{ℕ, List, []}
use Rattle.wcps_text.specs.Tree.{query_view}
use Rattle.wcps_types.specs.declared.bound.Bound.{Bound}
use Rattle.wcps_types.specs.declared.source.Source.{Source}
use Rattle.wcps_types.specs.Typed.{CombinationTree}
use Rattle.wcps_types.specs.Shapes.{Answer}
use Rattle.wcps_types.specs.Bindings.{ChoiceTree, combinations}
use Rattle.wcps_types.specs.Queries.{typ_combination, typ_each}
use Rattle.wcps_types.specs.Sharing.{typed_over}

-- the query over its variables, each with the signature of the coverage at its place
abbrev pub typed_at : Source → List ℕ → Answer CombinationTree
typed_at s places = typed_over s.coverages.now (query_view s.query.now) s.variables.now.list.items places

-- the query with one choice of coverages
abbrev pub typed_with : Source → List Bound → Answer CombinationTree
typed_with s bound = typ_combination s.coverages.now (query_view s.query.now) bound

-- the query with each choice of coverages in order
abbrev pub typed_each : Source → List ChoiceTree → Answer (List CombinationTree)
typed_each s list = typ_each s.coverages.now (query_view s.query.now) [] (combinations list)
