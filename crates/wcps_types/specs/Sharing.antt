-- Combinations that share a tree: over variables whose coverages have the same domains and fields, a query has one.
use Rattle.std.specs.Prelude.{◌≡◌, ℕ, suc, ◌<◌, ◌≤◌, List, [], ◌∷◌, Bool, true, false, map, length, Option, Some, None, slice_get, Ok, Err, Vec}
use Rattle.std.specs.Global.{Global}
use Rattle.arr_core.specs.declared.signature.Signature.{Signature}
use Rattle.wcps_text.specs.Tree.{QueryTree}
use Rattle.wcps_types.specs.declared.bound.Bound.{Bound}
use Rattle.wcps_types.specs.declared.typed_query.Combination.{Combination}
use Rattle.wcps_types.specs.declared.typed_query.Maker.{Maker}
use Rattle.wcps_types.specs.declared.query.Latest.{Latest}
use Rattle.wcps_types.specs.Typed.{CombinationTree, tree_view}
use Rattle.wcps_types.specs.Renamed.{nothing, combination_view}
use Rattle.wcps_types.specs.Shapes.{Answer}
use Rattle.wcps_types.specs.Cells.{result_cells, capped_cells}
use Rattle.wcps_types.specs.Work.{query_work, capped}
use Rattle.wcps_types.specs.Bindings.{ChoiceTree, bound_to}
use Rattle.wcps_types.specs.Queries.{typ_combination}

-- the variables, each with a coverage of its own, numbered from k on
abbrev pub own : ℕ → List Bound → List Bound
own k [] = []
own k (b ∷ bound) = bound_to b.variable k ∷ own (suc k) bound

-- the same of choices
abbrev pub own_choices : ℕ → List ChoiceTree → List Bound
own_choices k [] = []
own_choices k (c ∷ choices) = bound_to c.variable k ∷ own_choices (suc k) choices

abbrev pub coverage_in : Bound → ℕ
coverage_in b = b.coverage

-- the places of the coverages that the variables stand for
abbrev pub coverages_in : List Bound → List ℕ
coverages_in bound = map coverage_in bound

abbrev pub with_signature : Option Signature → List Signature → List Signature
with_signature None more = more
with_signature (Some s) more = s ∷ more

-- the signatures at those places
abbrev pub signatures_at : List Signature → List ℕ → List Signature
signatures_at cs [] = []
signatures_at cs (k ∷ places) = with_signature (slice_get cs k) (signatures_at cs places)

-- signatures of which only the names may differ
abbrev pub AreLike : Signature → Signature → Type 0
AreLike s t = (s.domain ≡ t.domain) × (s.fields ≡ t.fields)

abbrev pub StandsFor : Option Signature → Signature → Type 0
StandsFor None s = ⊥
StandsFor (Some t) s = AreLike t s

-- each variable stands for a coverage like its signature
abbrev pub Stand : List Signature → List ℕ → List Signature → Type 0
Stand cs [] [] = Unit {0}
Stand cs (k ∷ places) (s ∷ signatures) = StandsFor (slice_get cs k) s × Stand cs places signatures
Stand cs [] (s ∷ signatures) = ⊥
Stand cs (k ∷ places) [] = ⊥

-- places below a number: of things that are there
abbrev pub AreBelow : ℕ → List ℕ → Type 0
AreBelow n [] = Unit {0}
AreBelow n (k ∷ places) = (k < n) × AreBelow n places

-- each variable stands for coverages that are there
abbrev pub ChoicesAreBelow : ℕ → List ChoiceTree → Type 0
ChoicesAreBelow n [] = Unit {0}
ChoicesAreBelow n (c ∷ choices) = AreBelow n c.coverages × ChoicesAreBelow n choices

-- each combination has one of so many trees
abbrev pub HaveTrees : ℕ → List Combination → Type 0
HaveTrees n [] = Unit {0}
HaveTrees n (c ∷ more) = (c.tree < n) × HaveTrees n more

abbrev pub AlikeAt : Option Signature → Option Signature → Type 0
AlikeAt (Some s) (Some t) = AreLike s t
AlikeAt (Some s) None = ⊥
AlikeAt None t = ⊥

-- the coverages at these places are, one by one, like those at the others
abbrev pub Alike : List Signature → List ℕ → List ℕ → Type 0
Alike cs [] [] = Unit {0}
Alike cs (a ∷ places) (b ∷ others) = AlikeAt (slice_get cs a) (slice_get cs b) × Alike cs places others
Alike cs [] (b ∷ others) = ⊥
Alike cs (a ∷ places) [] = ⊥

-- a maker is of coverages like those at these places
abbrev pub IsLike : List Signature → List ℕ → Maker → Type 0
IsLike cs places m = Alike cs places m.coverages.items

-- the query over its variables, each with the signature of the coverage at its place
abbrev pub typed_over : List Signature → QueryTree → List Bound → List ℕ → Answer CombinationTree
typed_over cs q variables places = typ_combination (signatures_at cs places) q variables

abbrev pub is_typed : Answer CombinationTree → Bool
is_typed (Ok t) = true
is_typed (Err f) = false

abbrev pub tree_in : Answer CombinationTree → CombinationTree
tree_in (Ok t) = t
tree_in (Err f) = nothing

-- whether there is a tree over the coverages of a maker
abbrev pub makes : List Signature → QueryTree → List Bound → Maker → Bool
makes cs q variables m = is_typed (typed_over cs q variables m.coverages.items)

-- that tree
abbrev pub tree_of : List Signature → QueryTree → List Bound → Maker → CombinationTree
tree_of cs q variables m = tree_in (typed_over cs q variables m.coverages.items)

-- the trees of makers
abbrev pub trees_of : List Signature → QueryTree → List Bound → List Maker → List CombinationTree
trees_of cs q variables makers = map (tree_of cs q variables) makers

-- the first ones are still there
abbrev pub Grows : List CombinationTree → List CombinationTree → Type 0
Grows old new = (length old ≤ length new) × ((k : ℕ) → k < length old → slice_get new k ≡ slice_get old k)

-- the maker of a tree over those coverages, with the cells and the work of the tree
abbrev pub maker_of : Vec ℕ Global → CombinationTree → Maker
maker_of places t = record {
  coverages = places;
  cells = capped_cells (result_cells (t ∷ []));
  work =
      capped (query_work (t ∷ []));
}

-- each maker tells the cells and the work of its tree
abbrev pub AreCounted : List CombinationTree → List Maker → Type 0
AreCounted [] [] = Unit {0}
AreCounted (t ∷ trees) (m ∷ makers) = (m ≡ maker_of m.coverages t) × AreCounted trees makers
AreCounted [] (m ∷ makers) = ⊥
AreCounted (t ∷ trees) [] = ⊥

-- what makers count of combinations: if each tells the cells and the work of its tree, it is that of the combinations
-- with the trees
abbrev pub IsCounted : (List CombinationTree → ℕ) → List Maker → List Combination → ℕ → Type 0
IsCounted count makers list n =
    (trees : List CombinationTree) → AreCounted trees makers → n ≡ count (map (combination_view trees) list)

-- each maker has a tree, and tells its cells and its work
abbrev pub AreMade : List Signature → QueryTree → List Bound → List Maker → Type 0
AreMade cs q variables [] = Unit {0}
AreMade cs q variables (m ∷ makers) =
    (makes cs q variables m ≡ true) × (m ≡ maker_of m.coverages (tree_of cs q variables m))
    × AreMade cs q variables makers

-- the tree that is kept is the one at its place
abbrev pub IsLatest : List CombinationTree → Option Latest → Type 0
IsLatest trees None = Unit {0}
IsLatest trees (Some l) = slice_get trees l.place ≡ Some (tree_view l.tree)
