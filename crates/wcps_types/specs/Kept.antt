-- The trees of a query while its combinations are typed one by one: all have makers, and the last one is kept.
use Rattle.std.specs.Prelude.{◌≡◌, ℕ, List, map, Option, Some, None, Box, slice_get}
use Rattle.std.specs.Global.{Global}
use Rattle.wcps_text.specs.Tree.{query_view}
use Rattle.wcps_types.specs.declared.bound.Bound.{Bound}
use Rattle.wcps_types.specs.declared.query.Latest.{Latest}
use Rattle.wcps_types.specs.declared.query.Making.{Making}
use Rattle.wcps_types.specs.declared.query.Combined.{Combined}
use Rattle.wcps_types.specs.declared.source.Source.{Source}
use Rattle.wcps_types.specs.Typed.{CombinationTree}
use Rattle.wcps_types.specs.Renamed.{over, combination_view}
use Rattle.wcps_types.specs.Sharing.{coverages_in, trees_of, AreMade, IsLatest}

-- the tree that was made last, out of the box that it is kept in
abbrev pub latest_of : Option (Box Latest Global) → Option Latest
latest_of None = None
latest_of (Some b) = Some b.value

-- the tree, if it is kept, has that place among the trees
abbrev pub IsKept : Option Latest → CombinationTree → ℕ → Type 0
IsKept latest t k = (trees : List CombinationTree) → IsLatest trees latest → slice_get trees k ≡ Some t

-- the trees so far
abbrev pub trees_made : Source → Making → List CombinationTree
trees_made s m = trees_of s.coverages.now (query_view s.query.now) s.variables.now.list.items m.makers.items

-- each maker has a tree, and the one that is kept is at its place
pub record IsMaking (s : Source) (m : Making) : Type 0 where
  pub made : AreMade s.coverages.now (query_view s.query.now) s.variables.now.list.items m.makers.items
  pub latest : IsLatest (trees_made s m) (latest_of m.latest)

-- the tree at a place, over the coverages that the variables stand for
abbrev pub tree_at : Source → Making → List Bound → ℕ → CombinationTree
tree_at s m bound k = over (coverages_in bound) (slice_get (trees_made s m) k)

-- the combinations with their trees
abbrev pub combined_view : Source → Combined → List CombinationTree
combined_view s all = map (combination_view (trees_made s (record { makers = all.makers; latest = None })))
    all.combinations.items
