-- What is kept of a thing of each kind that is read, and what is kept of what is made of such things.
use Rattle.std.specs.Prelude.{List, Option, Vec, Box}
use Rattle.std.specs.Global.{Global}
use Rattle.wcps_text.specs.declared.operator.Aggregate.{Aggregate}
use Rattle.wcps_text.specs.declared.tree.Binding.{Binding}
use Rattle.wcps_text.specs.declared.tree.Expr.{Expr}
use Rattle.wcps_text.specs.declared.tree.Part.{Part}
use Rattle.wcps_text.specs.declared.tree.Sub.{Sub}
use Rattle.wcps_text.specs.declared.tree.Place.{Place}
use Rattle.wcps_text.specs.declared.tree.Interval.{Interval}
use Rattle.wcps_text.specs.declared.tree.Iter.{Iter}
use Rattle.wcps_text.specs.declared.tree.Item.{Item}
use Rattle.wcps_text.specs.declared.tree.Query.{Query}
use Rattle.wcps_text.specs.Tree as tree
use Rattle.wcps_text.specs.Tree.{Tree, PlaceTree, IntervalTree, Condition, ItemTree, QueryTree, view_place, view_interval, condition_of, bindings_of, item_view, query_view}
use Rattle.wcps_text.specs.Limits.{height, place_height, interval_height, condition_height, item_height, query_height}
use Rattle.wcps_parse.specs.declared.grown.Grown.{Grown}
use Rattle.wcps_parse.specs.Reading.{NamedTree, NamedPlace, NamedInterval, iters_from}
use Rattle.wcps_parse.specs.Fit.{Fit, highest}
use Rattle.wcps_parse.specs.Views.{boxed_view, part_view, sub_view, iter_view, parts_view, subs_view, iters_view, part_height, sub_height, iter_height}

abbrev pub FitTree : Grown (Box Expr Global) → Tree → Type 0
FitTree = Fit boxed_view height

abbrev pub FitPart : Grown Part → NamedTree → Type 0
FitPart = Fit part_view part_height

abbrev pub FitParts : Grown (Vec Part Global) → List NamedTree → Type 0
FitParts = Fit parts_view (highest part_height)

abbrev pub FitSub : Grown Sub → NamedPlace → Type 0
FitSub = Fit sub_view sub_height

abbrev pub FitSubs : Grown (Vec Sub Global) → List NamedPlace → Type 0
FitSubs = Fit subs_view (highest sub_height)

abbrev pub FitPlace : Grown Place → PlaceTree → Type 0
FitPlace = Fit view_place place_height

abbrev pub FitInterval : Grown Interval → IntervalTree → Type 0
FitInterval = Fit view_interval interval_height

abbrev pub FitIter : Grown Iter → NamedInterval → Type 0
FitIter = Fit iter_view iter_height

abbrev pub FitIters : Grown (Vec Iter Global) → List NamedInterval → Type 0
FitIters = Fit iters_view (highest iter_height)

abbrev pub FitCondition : Grown (Option (Box Expr Global)) → Condition → Type 0
FitCondition = Fit condition_of condition_height

abbrev pub FitItem : Grown Item → ItemTree → Type 0
FitItem = Fit item_view item_height

abbrev pub FitQuery : Grown Query → QueryTree → Type 0
FitQuery = Fit query_view query_height

-- g is kept, as `Fits` says, of what f makes of each thing of which P holds
abbrev pub Makes : {A C G : Type 0} → (A → C) → (A → Type 0) → (G → C → Type 0) → G → Type 0
Makes f P Fits g = (a : _) → P a → Fits g (f a)

-- the same of what f makes of two things
abbrev pub Joins : {A B C G : Type 0} → (A → B → C) → (A → Type 0) → (B → Type 0) → (G → C → Type 0) → G → Type 0
Joins f P Q Fits g = (a : _) (b : _) → P a → Q b → Fits g (f a b)

-- what is kept of a condenser, where this is kept of its iterators, its condition and its body
abbrev pub FitCondense : Aggregate → Grown (Vec Iter Global) → Grown (Option (Box Expr Global))
    → Grown (Box Expr Global) → Grown (Box Expr Global) → Type 0
FitCondense op iterators condition body g =
    (is : List NamedInterval) → FitIters iterators is
    → Joins (tree.condense op (iters_from is)) (FitCondition condition) (FitTree body) FitTree g

-- a query with these bindings
abbrev pub query_of : List Binding → Condition → ItemTree → QueryTree
query_of bindings condition item = record { bindings = bindings_of bindings; condition = condition; item = item }
