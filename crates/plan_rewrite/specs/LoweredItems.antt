-- Lowering of items: the slices from an item down to its coverage or record stand once, as binds that all fields share;
-- and of what one choice of coverages gives: a condition, if any, and an item.
use Rattle.std.specs.Prelude.{ℕ, ℤ, Bool, List, [], ◌∷◌, map, Option, option_map, Box}
use Rattle.std.specs.Global.{Global}
use Rattle.wcps_types.specs.declared.typed.Node.{Node}
use Rattle.wcps_types.specs.declared.typed.Node.TheVariants as nodes
use Rattle.wcps_types.specs.declared.typed.TypedItem.{TypedItem}
use Rattle.wcps_types.specs.Typed.{Typed, bracket, slice, FieldTree, CombinationTree, field_tree, only_tree, boxed_tree, fields_view, item_view}
use Rattle.plan_ir.specs.Bodies.{Tree}
use Rattle.plan_ir.specs.Plans.{BindTree, FieldBody, ItemTree, StepsTree}
use Rattle.plan_rewrite.specs.declared.lowering.context.Context.{Context}
use Rattle.plan_rewrite.specs.Lowering.{Setting, setting_of, outermost, at_scalar, at_slice, lowered}

-- a node seen through the brackets and slices at its top, which all its fields have
pub data Chain : Type 0 where
  end : Node → Chain
  bracketed : Chain → Chain
  -- the axis taken out and its bounds, and the position
  sliced : ℕ → ℤ → ℤ → Typed → Chain → Chain

abbrev pub chain_of : Node → Chain
chain_of (nodes.Number z) = end (nodes.Number z)
chain_of (nodes.Iterator k) = end (nodes.Iterator k)
chain_of (nodes.Coverage v) = end (nodes.Coverage v)
chain_of (nodes.Unary' op p e) = end (nodes.Unary' op p e)
chain_of (nodes.Binary' op p l q r) = end (nodes.Binary' op p l q r)
chain_of (nodes.Scalar' p e) = end (nodes.Scalar' p e)
chain_of (nodes.Record' shape parts) = end (nodes.Record' shape parts)
chain_of (nodes.Select' p e k) = end (nodes.Select' p e k)
chain_of (nodes.Bracket' p e) = bracketed (chain_of e)
chain_of (nodes.Slice' p e axis lo hi q i) = sliced axis lo hi (only_tree i) (chain_of e)
chain_of (nodes.Array' p e) = end (nodes.Array' p e)
chain_of (nodes.List box items) = end (nodes.List box items)
chain_of (nodes.Condense' op box p e) = end (nodes.Condense' op box p e)
chain_of (nodes.CondenseWhere' op box p c q e) = end (nodes.CondenseWhere' op box p c q e)
chain_of (nodes.Reduce' op box p e) = end (nodes.Reduce' op box p e)

-- the tree of a field
abbrev pub chain_tree : Chain → ℕ → Typed
chain_tree (end e) k = field_tree e k
chain_tree (bracketed h) k = bracket (chain_tree h k)
chain_tree (sliced axis lo hi i h) k = slice (chain_tree h k) axis lo hi i

abbrev pub slice_bind : Setting → ℤ → ℤ → Typed → BindTree
slice_bind c lo hi i = record { position = lowered (at_scalar c) i; lo = lo; hi = hi }

-- a bind for each slice
abbrev pub chain_binds : Setting → Chain → List BindTree
chain_binds c (end e) = []
chain_binds c (bracketed h) = chain_binds c h
chain_binds c (sliced axis lo hi i h) = slice_bind c lo hi i ∷ chain_binds (at_slice c axis lo hi) h

abbrev pub lowered_field : Setting → FieldTree → FieldBody
lowered_field c f = record { boolean = f.boolean; body = lowered c f.tree }

-- each field of a node
abbrev pub lowered_fields : Setting → Node → List Bool → List FieldBody
lowered_fields c e booleans = map (lowered_field c) (fields_view e 0 booleans)

-- the fields under the binds
abbrev pub chain_fields : Setting → Chain → List Bool → List FieldBody
chain_fields c (end e) booleans = lowered_fields c e booleans
chain_fields c (bracketed h) booleans = chain_fields c h booleans
chain_fields c (sliced axis lo hi i h) booleans = chain_fields (at_slice c axis lo hi) h booleans

-- the same of a node where the code lowers it
abbrev pub shared_binds : Context → Node → List BindTree
shared_binds c e = chain_binds (setting_of c) (chain_of e)

abbrev pub shared_fields : Context → Node → List Bool → List FieldBody
shared_fields c e booleans = chain_fields (setting_of c) (chain_of e) booleans

-- an item without fields demands nothing, and has no binds
abbrev pub item_binds : List Bool → List BindTree → List BindTree
item_binds [] binds = []
item_binds (b ∷ booleans) binds = binds

abbrev pub lowered_item : TypedItem → ItemTree
lowered_item i = record {
  domain = i.domain;
  binds = item_binds i.booleans.items (chain_binds (outermost [] i.domain) (chain_of i.node.value));
  fields = chain_fields (outermost [] i.domain) (chain_of i.node.value) i.booleans.items;
}

-- a condition, if any, and an item
abbrev pub returned : Option (Box Node Global) → TypedItem → CombinationTree
returned condition i = record { condition = option_map boxed_tree condition; item = item_view i }

-- a scalar under no variable
abbrev pub lowered_scalar : Node → Tree
lowered_scalar e = lowered (outermost [] []) (only_tree e)

-- the same of a scalar in a box
abbrev pub boxed_scalar : Box Node Global → Tree
boxed_scalar b = lowered_scalar b.value

abbrev pub lowered_steps : Option (Box Node Global) → TypedItem → StepsTree
lowered_steps condition i = record { passes = []; condition = option_map boxed_scalar condition; item = lowered_item i }
