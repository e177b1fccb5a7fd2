-- Syntax trees as values alone, without where they lie in memory. Definitions of the language speak of these.
use Rattle.std.specs.Prelude.{ℕ, ℤ, List, [], ◌∷◌, Option, Some, None, Bool}
use Rattle.std.specs.Prelude.{Box}
use Rattle.std.specs.Global.{Global}
use Rattle.wcps_text.specs.declared.tree.Part.{Part}
use Rattle.wcps_text.specs.declared.tree.Sub.{Sub}
use Rattle.wcps_text.specs.declared.tree.Iter.{Iter}
use Rattle.wcps_text.specs.declared.operator.UnaryOperator.{UnaryOperator}
use Rattle.wcps_text.specs.declared.operator.BinaryOperator.{BinaryOperator}
use Rattle.wcps_text.specs.declared.operator.Aggregate.{Aggregate}
use Rattle.wcps_text.specs.declared.tree.ListItem.{ListItem}
use Rattle.wcps_text.specs.declared.tree.Binding.{Binding}
use Rattle.wcps_text.specs.declared.tree.Item.{Item}
use Rattle.wcps_text.specs.declared.tree.Item.TheVariants as items
use Rattle.wcps_text.specs.declared.tree.Query.{Query}
use Rattle.wcps_text.specs.declared.tree.Expr.{Expr, Number, Truth, Variable, Unary', Binary', Reduce', Record', ValueList', Field', Brackets', Coverage', Condense', Row_of-Part, end_of-Part, more_of-Part, Row_of-Sub, end_of-Sub, more_of-Sub, Row_of-Iter, end_of-Iter, more_of-Iter, Held-Expr-Condense-2, None', Some'}
use Rattle.wcps_text.specs.declared.tree.Place.{Place}
use Rattle.wcps_text.specs.declared.tree.Place.TheVariants.{Trim, At'}
use Rattle.wcps_text.specs.declared.tree.Interval.{Interval}
use Rattle.wcps_text.specs.declared.tree.Interval.TheVariants.{Bounds, Domain'}

mutual
  -- an expression
  pub data Tree : Type 0 where
    number : ℕ → Tree
    truth : Bool → Tree
    variable : List ℕ → Tree
    unary : UnaryOperator → Tree → Tree
    binary : BinaryOperator → Tree → Tree → Tree
    reduce : Aggregate → Tree → Tree
    parts : Parts → Tree
    value_list : Iters → List ListItem → Tree
    field : Tree → List ℕ → Tree
    brackets : Tree → Subs → Tree
    coverage : Iters → Tree → Tree
    condense : Aggregate → Iters → Condition → Tree → Tree

  -- the named parts of `{..}`
  pub data Parts : Type 0 where
    no_parts : Parts
    part : List ℕ → Tree → Parts → Parts

  -- the axes of a bracket, and what of each
  pub data Subs : Type 0 where
    no_subs : Subs
    sub : List ℕ → PlaceTree → Subs → Subs

  pub data PlaceTree : Type 0 where
    trim : IntervalTree → PlaceTree
    at : Tree → PlaceTree

  pub data IntervalTree : Type 0 where
    bounds : ℤ → ℤ → IntervalTree
    domain : Tree → List ℕ → IntervalTree

  -- iterators: a variable, an axis and an interval each
  pub data Iters : Type 0 where
    no_iters : Iters
    iter : List ℕ → List ℕ → IntervalTree → Iters → Iters

  -- what follows `where`, if it is there
  pub data Condition : Type 0 where
    always : Condition
    only : Tree → Condition

abbrev mutual
  pub view : Expr → Tree
  view (Number n) = number n.value
  view (Truth b) = truth b
  view (Variable x) = variable x
  view (Unary' op p e) = unary op (view e)
  view (Binary' op p a q b) = binary op (view a) (view b)
  view (Reduce' op p e) = reduce op (view e)
  view (Record' shape all) = parts (view_parts all)
  view (ValueList' shape all items) = value_list (view_iters all) items.items
  view (Field' p e x) = field (view e) x
  view (Brackets' p e shape all) = brackets (view e) (view_subs all)
  view (Coverage' shape all p e) = coverage (view_iters all) (view e)
  view (Condense' op shape all c p e) = condense op (view_iters all) (view_condition c) (view e)

  pub view_parts : {m : _} → Row_of-Part m → Parts
  view_parts end_of-Part = no_parts
  view_parts (more_of-Part name value rest) = part name (view value) (view_parts rest)

  pub view_subs : {m : _} → Row_of-Sub m → Subs
  view_subs end_of-Sub = no_subs
  view_subs (more_of-Sub axis place rest) = sub axis (view_place place) (view_subs rest)

  pub view_place : Place → PlaceTree
  view_place (Trim i) = trim (view_interval i)
  view_place (At' p e) = at (view e)

  pub view_interval : Interval → IntervalTree
  view_interval (Bounds lo hi) = bounds lo hi
  view_interval (Domain' p e x) = domain (view e) x

  pub view_iters : {m : _} → Row_of-Iter m → Iters
  view_iters end_of-Iter = no_iters
  view_iters (more_of-Iter v a i rest) = iter v a (view_interval i) (view_iters rest)

  pub view_condition : Held-Expr-Condense-2 → Condition
  view_condition None' = always
  view_condition (Some' p e) = only (view e)

-- the same of what a `Vec` has
abbrev pub parts_of : List Part → Parts
parts_of [] = no_parts
parts_of (p ∷ ps) = part p.name (view p.value) (parts_of ps)

abbrev pub subs_of : List Sub → Subs
subs_of [] = no_subs
subs_of (s ∷ ss) = sub s.axis (view_place s.place) (subs_of ss)

abbrev pub iters_of : List Iter → Iters
iters_of [] = no_iters
iters_of (i ∷ is) = iter i.variable i.axis (view_interval i.interval) (iters_of is)

abbrev pub condition_of : Option (Box Expr Global) → Condition
condition_of None = always
condition_of (Some b) = only (view b.value)

-- a variable of a query, and the coverages that it stands for in turn
pub record BindingTree : Type 0 where
  pub variable : List ℕ
  pub coverages : List (List ℕ)

-- what a query returns
pub data ItemTree : Type 0 where
  encode : Tree → ItemTree
  plain : Tree → ItemTree

-- a whole query
pub record QueryTree : Type 0 where
  pub bindings : List BindingTree
  pub condition : Condition
  pub item : ItemTree

abbrev pub binding_view : Binding → BindingTree
binding_view b = record { variable = b.variable; coverages = b.coverages.items }

abbrev pub bindings_of : List Binding → List BindingTree
bindings_of [] = []
bindings_of (b ∷ bs) = binding_view b ∷ bindings_of bs

abbrev pub item_view : Item → ItemTree
item_view (items.Encode e) = encode (view e.value)
item_view (items.Plain e) = plain (view e.value)

abbrev pub query_view : Query → QueryTree
query_view q = record {
  bindings = bindings_of q.bindings.items;
  condition = condition_of q.condition;
  item =
      item_view q.item;
}
