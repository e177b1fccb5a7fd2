-- The typed trees of the templates' queries: what gives the value at each location, of the trees of its layers.
use Rattle.std.specs.Prelude.{ℕ, suc, ℤ, pos, negsuc, ◌-ℤ◌, List, [], ◌∷◌, length, map, false, None}
use Rattle.arr_core.specs.declared.domain.Axis.{Axis}
use Rattle.arr_core.specs.declared.signature.Signature.{Signature}
use Rattle.wcps_text.specs.declared.operator.Aggregate.{Aggregate}
use Rattle.wcps_text.specs.declared.operator.Aggregate.TheVariants as aggregates
use Rattle.wcps_text.specs.declared.operator.UnaryOperator.TheVariants as unaries
use Rattle.wcps_text.specs.declared.operator.BinaryOperator.TheVariants as binaries
use Rattle.wcps_types.specs.Typed.{Typed, number, iterator, unary, binary, bracket, slice, array, condense_where, FieldTree, TypedTree}
use Rattle.map_templates.specs.declared.template.LocalOperation.{LocalOperation}
use Rattle.map_templates.specs.declared.template.LocalOperation.TheVariants as locals
use Rattle.map_templates.specs.declared.template.Summary.{Summary}
use Rattle.map_templates.specs.declared.template.Summary.TheVariants as summaries
use Rattle.map_templates.specs.Expansion.{Operation, local_on, focal_on, zonal_on}

-- the condenser of each summary
abbrev pub condenser_of : Summary → Aggregate
condenser_of summaries.Sum = aggregates.Sum
condenser_of summaries.Maximum = aggregates.Greatest
condenser_of summaries.Minimum = aggregates.Least

-- ---- local

abbrev pub local_tree : LocalOperation → Typed → Typed → Typed
local_tree locals.Sum a b = binary binaries.Add a b
local_tree locals.Difference a b = binary binaries.Subtract a b
local_tree locals.Product a b = binary binaries.Multiply a b
local_tree locals.Maximum a b =
    binary binaries.Add (binary binaries.Multiply a (binary binaries.GreaterEqual a b))
    (binary binaries.Multiply b (binary binaries.Less a b))
local_tree locals.Minimum a b =
    binary binaries.Add (binary binaries.Multiply a (binary binaries.LessEqual a b))
    (binary binaries.Multiply b (binary binaries.Greater a b))

-- ---- layers at positions

-- the axes from the k-th on taken out at positions, the first one outermost
abbrev pub located : Typed → ℕ → List Axis → List Typed → Typed
located e k [] ts = e
located e k (a ∷ axes) [] = e
located e k (a ∷ axes) (t ∷ ts) = slice (located e (suc k) axes ts) k a.lo a.hi t

-- iterators, one for each axis
abbrev pub iterators : ℕ → List Axis → List Typed
iterators k [] = []
iterators k (a ∷ axes) = iterator k ∷ iterators (suc k) axes

-- ---- zonal

abbrev pub zonal_tree : Summary → List Axis → Typed → Typed → Typed
zonal_tree op axes a z =
    array (condense_where (condenser_of op) axes
    (binary binaries.Equal (bracket (located z 0 axes (iterators (length axes) axes)))
    (bracket (located z 0 axes (iterators 0 axes))))
    (bracket (located a 0 axes (iterators (length axes) axes))))

-- ---- focal

-- the offsets up to a radius, to both sides
abbrev pub window_of : ℕ → Axis → Axis
window_of r a = record { name = a.name; lo = pos 0 -ℤ pos r; hi = pos r }

-- the offsets of a window on each axis
abbrev pub windows_of : ℕ → List Axis → List Axis
windows_of r axes = map (window_of r) axes

-- a number as a query writes it: a sign is an operator
abbrev pub literal : ℤ → Typed
literal (pos n) = number (pos n)
literal (negsuc n) = unary unaries.Negate (number (pos (suc n)))

abbrev pub edge_tree : Typed → Axis → Typed
edge_tree m a = binary binaries.And (binary binaries.GreaterEqual m (literal a.lo))
    (binary binaries.LessEqual m (literal a.hi))

abbrev pub first_moved : Typed
first_moved = binary binaries.Add (iterator 0) (iterator 2)

abbrev pub second_moved : Typed
second_moved = binary binaries.Add (iterator 1) (iterator 3)

-- a location moved by an offset is one of the domain
abbrev pub edges_tree : Axis → Axis → Typed
edges_tree x y = binary binaries.And
    (binary binaries.And (edge_tree first_moved x) (binary binaries.GreaterEqual second_moved (literal y.lo)))
    (binary binaries.LessEqual second_moved (literal y.hi))

abbrev pub focal_tree : Summary → Axis → Axis → ℕ → Typed → Typed
focal_tree op x y r a =
    array (condense_where (condenser_of op) (windows_of r (x ∷ y ∷ [])) (edges_tree x y)
    (bracket (located a 0 (x ∷ y ∷ []) (first_moved ∷ second_moved ∷ []))))

-- ---- queries

-- one integer field
abbrev pub integer_field : Typed → FieldTree
integer_field t = record { boolean = false; tree = t }

-- a query of one combination without a condition, whose item is one integer field
abbrev pub single : List Signature → List Axis → Typed → TypedTree
single cs axes t = record {
  coverages = cs;
  combinations =
      record { condition = None; item = record { domain = axes; fields = integer_field t ∷ [] } } ∷ [];
}

-- of an operation, by the trees of its layers; a focal operation has the first one alone
abbrev pub tree_of : Operation → Typed → Typed → Typed
tree_of (local_on op first f second g axes) a b = local_tree op a b
tree_of (focal_on op layer f x y radius) a b = focal_tree op x y radius a
tree_of (zonal_on op layer f zones g axes) a b = zonal_tree op axes a b

-- the locations of its array
abbrev pub domain_of : Operation → List Axis
domain_of (local_on op first f second g axes) = axes
domain_of (focal_on op layer f x y radius) = x ∷ y ∷ []
domain_of (zonal_on op layer f zones g axes) = axes
