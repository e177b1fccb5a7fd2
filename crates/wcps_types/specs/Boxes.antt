-- Iterator lists, and the forms over a box.
use Rattle.std.specs.Prelude.{ℕ, ℤ, pos, List, [], ◌∷◌, ◌++◌, map, length, Bool, true, false, cond, not, ◌&&◌, ◌||◌, nat_le, nat_eq, int_le, Option, is_some, Ok, Err}
use Rattle.std.specs.List.{list_any, list_all}
use Rattle.std.specs.Str.{bytes_eq}
use Rattle.arr_core.specs.declared.domain.Axis.{Axis}
use Rattle.arr_core.specs.Domains.{count, names_of}
use Rattle.arr_core.specs.Limits.{max_axes, max_points}
use Rattle.arr_core.specs.Names.{is_name}
use Rattle.wcps_text.specs.declared.operator.Aggregate.{Aggregate}
use Rattle.wcps_text.specs.declared.operator.Aggregate.TheVariants as aggregates
use Rattle.wcps_text.specs.declared.tree.ListItem.{ListItem}
use Rattle.wcps_text.specs.declared.tree.ListItem.TheVariants.{Int, Truth}
use Rattle.wcps_types.specs.declared.refusal.TypeRefusal.{TypeRefusal}
use Rattle.wcps_types.specs.declared.refusal.TypeRefusal.TheVariants.{NoSuchAxis, BadInterval, NeedsBoolean, NeedsInteger, ListLength}
use Rattle.wcps_types.specs.declared.bound.Bound.{Bound}
use Rattle.wcps_types.specs.declared.boxes.Iterators.{Iterators}
use Rattle.wcps_types.specs.Typed.{Typed, array, listed, condense_of}
use Rattle.wcps_types.specs.Names.{bound_place, name_place}
use Rattle.wcps_types.specs.Shapes.{ShapeTree, ScalarOf, Answer, then_of, unnamed}
use Rattle.wcps_types.specs.Brackets.{BoundsOf}

-- iterators so far: their variables, and the axes that they go over
pub record IteratorTrees : Type 0 where
  pub variables : List (List ℕ)
  pub axes : List Axis

abbrev pub iterators_view : Iterators → IteratorTrees
iterators_view i = record { variables = i.variables.items; axes = i.axes.items }

-- none yet
abbrev pub no_iterators : IteratorTrees
no_iterators = record { variables = []; axes = [] }

-- a variable is bound by `for`, by an iterator in scope, or by one before it in its list
abbrev pub is_taken : List Bound → List (List ℕ) → List (List ℕ) → List ℕ → Bool
is_taken bound scope before name =
    (is_some (bound_place name bound) || is_some (name_place name scope)) || is_some (name_place name before)

-- an axis with those bounds; the grammar spells names alone
abbrev pub axis_of : List ℕ → BoundsOf → Answer Axis
axis_of name i = cond (is_name name) (Ok (record { name = name; lo = i.lo; hi = i.hi })) (Err NoSuchAxis)

abbrev pub with_axis : List ℕ → IteratorTrees → Axis → Answer IteratorTrees
with_axis variable is a = Ok (record { variables = is.variables ++ variable ∷ []; axes = is.axes ++ a ∷ [] })

-- one iterator more
abbrev pub with_iterator : List ℕ → List ℕ → BoundsOf → IteratorTrees → Answer IteratorTrees
with_iterator variable axis i is = then_of (axis_of axis i) (with_axis variable is)

abbrev pub are_distinct : List (List ℕ) → Bool
are_distinct [] = true
are_distinct (x ∷ xs) = not (list_any (bytes_eq x) xs) && are_distinct xs

abbrev pub are_ordered : List Axis → Bool
are_ordered [] = true
are_ordered (a ∷ axes) = int_le a.lo a.hi && are_ordered axes

-- axes make a domain, as a test: at most 6, no name twice, no lower bound above its upper one, at most 2^24 points
abbrev pub is_domain : List Axis → Bool
is_domain axes = (nat_le (length axes) max_axes && are_distinct (names_of axes)) &&
    (are_ordered axes && nat_le (count axes) max_points)

-- the box of the iterators
abbrev pub box_of : List Axis → Answer (List Axis)
box_of axes = cond (is_domain axes) (Ok axes) (Err BadInterval)

-- `coverage .. values` of a scalar
abbrev pub array_on : List Axis → ScalarOf → Answer ShapeTree
array_on box s = Ok (unnamed box s.boolean (array s.tree))

-- a condition is a Boolean
abbrev pub condition_of : ScalarOf → Answer Typed
condition_of s = cond s.boolean (Ok s.tree) (Err NeedsBoolean)

abbrev pub integers_condensed : Aggregate → List Axis → Option Typed → ScalarOf → Answer ShapeTree
integers_condensed op box c s = cond s.boolean (Err NeedsInteger) (Ok (unnamed [] false (condense_of op box c s.tree)))

abbrev pub booleans_condensed : Aggregate → Bool → List Axis → Option Typed → ScalarOf → Answer ShapeTree
booleans_condensed op boolean box c s =
    cond s.boolean (Ok (unnamed [] boolean (condense_of op box c s.tree))) (Err NeedsBoolean)

-- `condense`: `+ * max min` of integers, `and or` of Booleans
abbrev pub condensed : Aggregate → List Axis → Option Typed → ScalarOf → Answer ShapeTree
condensed aggregates.Sum box c s = integers_condensed aggregates.Sum box c s
condensed aggregates.Product box c s = integers_condensed aggregates.Product box c s
condensed aggregates.Greatest box c s = integers_condensed aggregates.Greatest box c s
condensed aggregates.Least box c s = integers_condensed aggregates.Least box c s
condensed aggregates.Every box c s = booleans_condensed aggregates.Every true box c s
condensed aggregates.Any box c s = booleans_condensed aggregates.Any true box c s
condensed aggregates.Count box c s = booleans_condensed aggregates.Count false box c s
condensed aggregates.Average box c s = integers_condensed aggregates.Average box c s

abbrev pub is_truth : ListItem → Bool
is_truth (Int z) = false
is_truth (Truth b) = true

-- 1 for true, 0 for false
abbrev pub item_number : ListItem → ℤ
item_number (Int z) = z
item_number (Truth b) = cond b (pos 1) (pos 0)

abbrev pub first_is_truth : List ListItem → Bool
first_is_truth [] = false
first_is_truth (i ∷ items) = is_truth i

abbrev pub has_kind : Bool → ListItem → Bool
has_kind true i = is_truth i
has_kind false i = not (is_truth i)

-- what refuses an item of another kind than the first one
abbrev pub other_kind : Bool → TypeRefusal
other_kind true = NeedsBoolean
other_kind false = NeedsInteger

abbrev pub listed_on : Bool → List Axis → List ListItem → Answer ShapeTree
listed_on boolean box items =
    cond (list_all (has_kind boolean) items) (Ok (unnamed box boolean (listed box (map item_number items))))
    (Err (other_kind boolean))

-- `coverage .. value list`: an item for each point, all of the kind of the first one
abbrev pub value_list : List Axis → List ListItem → Answer ShapeTree
value_list box items = cond (nat_eq (length items) (count box)) (listed_on (first_is_truth items) box items)
    (Err ListLength)
