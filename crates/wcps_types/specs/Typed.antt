-- Typed trees as values alone, without where they lie in memory.
use Rattle.std.specs.Prelude.{ℕ, zero, suc, ℤ, pos, List, [], ◌∷◌, Bool, Option, Some, None, Box, option_map}
use Rattle.std.specs.Global.{Global}
use Rattle.arr_core.specs.declared.domain.Axis.{Axis}
use Rattle.arr_core.specs.declared.signature.Signature.{Signature}
use Rattle.wcps_text.specs.declared.operator.UnaryOperator.{UnaryOperator}
use Rattle.wcps_text.specs.declared.operator.BinaryOperator.{BinaryOperator}
use Rattle.wcps_text.specs.declared.operator.Aggregate.{Aggregate}
use Rattle.wcps_types.specs.declared.typed.Node.{Node, Row_of-Node, end_of-Node, more_of-Node}
use Rattle.wcps_types.specs.declared.typed.Node.TheVariants as nodes
use Rattle.wcps_types.specs.declared.typed.TypedItem.{TypedItem}
use Rattle.wcps_types.specs.declared.typed.Tree.{Tree}

-- What gives one field of a value at each point of its domain, under the iterators in scope; see `Node`.
pub data Typed : Type 0 where
  number : ℤ → Typed
  iterator : ℕ → Typed
  -- the coverage's place and the field's place in it
  cell : ℕ → ℕ → Typed
  unary : UnaryOperator → Typed → Typed
  binary : BinaryOperator → Typed → Typed → Typed
  scalar : Typed → Typed
  select : Typed → Typed
  bracket : Typed → Typed
  -- the value, the axis taken out of it and its bounds, and the position
  slice : Typed → ℕ → ℤ → ℤ → Typed → Typed
  array : Typed → Typed
  listed : List Axis → List ℤ → Typed
  condense : Aggregate → List Axis → Typed → Typed
  -- the condition, then the body
  condense_where : Aggregate → List Axis → Typed → Typed → Typed
  reduce : Aggregate → List Axis → Typed → Typed

-- a condenser, with or without a condition
abbrev pub condense_of : Aggregate → List Axis → Option Typed → Typed → Typed
condense_of op box None e = condense op box e
condense_of op box (Some c) e = condense_where op box c e

abbrev mutual
  -- the tree of the field at place f of the value that a node gives
  pub field_tree : Node → ℕ → Typed
  field_tree (nodes.Number z) f = number z
  field_tree (nodes.Iterator k) f = iterator k
  field_tree (nodes.Coverage c) f = cell c f
  field_tree (nodes.Unary' op p e) f = unary op (field_tree e 0)
  field_tree (nodes.Binary' op p l q r) f = binary op (field_tree l 0) (field_tree r 0)
  field_tree (nodes.Scalar' p e) f = scalar (field_tree e f)
  field_tree (nodes.Record' shape parts) f = part_tree parts f
  field_tree (nodes.Select' p e k) f = select (field_tree e k)
  field_tree (nodes.Bracket' p e) f = bracket (field_tree e f)
  field_tree (nodes.Slice' p e axis lo hi q i) f = slice (field_tree e f) axis lo hi (field_tree i 0)
  field_tree (nodes.Array' p e) f = array (field_tree e 0)
  field_tree (nodes.List box items) f = listed box.value items.items
  field_tree (nodes.Condense' op box p e) f = condense op box.value (field_tree e 0)
  field_tree (nodes.CondenseWhere' op box p c q e) f = condense_where op box.value (field_tree c 0) (field_tree e 0)
  field_tree (nodes.Reduce' op box p e) f = reduce op box.value (field_tree e 0)

  -- the tree of the only field of the part at place f; no typed query asks for a part that is not there
  pub part_tree : {m : _} → Row_of-Node m → ℕ → Typed
  part_tree end_of-Node f = number (pos 0)
  part_tree (more_of-Node e rest) zero = field_tree e 0
  part_tree (more_of-Node e rest) (suc f) = part_tree rest f

-- the tree of a node with one field
abbrev pub only_tree : Node → Typed
only_tree e = field_tree e 0

-- the same of a node in a box
abbrev pub boxed_tree : Box Node Global → Typed
boxed_tree b = only_tree b.value

-- one field of an item: whether it is Boolean, and its tree
pub record FieldTree : Type 0 where
  pub boolean : Bool
  pub tree : Typed

-- a value on a domain
pub record ItemTree : Type 0 where
  pub domain : List Axis
  pub fields : List FieldTree

-- the `where` of the query, if any, and its item, for one choice of coverages
pub record CombinationTree : Type 0 where
  pub condition : Option Typed
  pub item : ItemTree

-- the coverages, and the combinations in order
pub record TypedTree : Type 0 where
  pub coverages : List Signature
  pub combinations : List CombinationTree

-- the fields that a node gives from that of place k on, each with whether it is Boolean
abbrev pub fields_view : Node → ℕ → List Bool → List FieldTree
fields_view e k [] = []
fields_view e k (boolean ∷ more) = record { boolean = boolean; tree = field_tree e k } ∷ fields_view e (suc k) more

abbrev pub item_view : TypedItem → ItemTree
item_view i = record { domain = i.domain; fields = fields_view i.node.value 0 i.booleans.items }

abbrev pub tree_view : Tree → CombinationTree
tree_view c = record { condition = option_map boxed_tree c.condition; item = item_view c.item }
