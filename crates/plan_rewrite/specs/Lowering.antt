-- Lowering: what a typed tree becomes under the variables of a body. Trims are left out, slices become binds, arrays
-- give their iterators away, and each cell is read at the indexes of the point.
use Rattle.std.specs.Prelude.{ℕ, ℤ, pos, List, [], ◌∷◌, ◌++◌, length, slice_index_or, insert}
use Rattle.arr_core.specs.declared.domain.Axis.{Axis}
use Rattle.wcps_text.specs.declared.operator.Aggregate.{Aggregate}
use Rattle.wcps_types.specs.declared.typed.Node.{Node}
use Rattle.wcps_types.specs.Typed.{Typed, field_tree, number, iterator, cell, unary, binary, scalar, select, bracket, slice, array, listed, condense, condense_where, reduce}
use Rattle.plan_ir.specs.declared.body.Index.{Index}
use Rattle.plan_ir.specs.declared.body.Index.TheVariants.{Const, Var}
use Rattle.plan_ir.specs.declared.body.Interval.{Interval}
use Rattle.plan_ir.specs.Bodies.{Tree, lit, op1, op2, read, table, bind, fold, always}
use Rattle.plan_ir.specs.Placed.{spans}
use Rattle.plan_rewrite.specs.declared.lowering.context.Context.{Context}
use Rattle.plan_rewrite.specs.Inlining.{variable, levels}

-- where a tree is lowered: the interval of each variable, the index of each iterator, outermost first, and the index of
-- each coordinate of the point
pub record Setting : Type 0 where
  pub scope : List Interval
  pub iterators : List Index
  pub point : List Index

abbrev pub setting_of : Context → Setting
setting_of c = record { scope = c.scope.items; iterators = c.iterators.items; point = c.point.items }

-- under variables for iterators, and behind them variables for the axes of the point
abbrev pub outermost : List Axis → List Axis → Setting
outermost iterators axes = record {
  scope = spans iterators ++ spans axes;
  iterators = levels 0 (spans iterators);
  point = levels (length iterators) (spans axes);
}

-- at the point without coordinates
abbrev pub at_scalar : Setting → Setting
at_scalar c = record { scope = c.scope; iterators = c.iterators; point = [] }

-- the coordinates of the point are further iterators
abbrev pub at_iterators : Setting → Setting
at_iterators c = record { scope = c.scope; iterators = c.iterators ++ c.point; point = [] }

-- one variable more, from lo to hi, is a coordinate of the point
abbrev pub at_slice : Setting → ℕ → ℤ → ℤ → Setting
at_slice c axis lo hi = record {
  scope = c.scope ++ record { lo = lo; hi = hi } ∷ [];
  iterators = c.iterators;
  point = insert c.point axis (Var (length c.scope));
}

-- further variables, over the axes of a box, are further iterators
abbrev pub at_box : Setting → List Axis → Setting
at_box c box = record {
  scope = c.scope ++ spans box;
  iterators = c.iterators ++ levels (length c.scope) (spans box);
  point = [];
}

-- or are the point
abbrev pub at_points : Setting → List Axis → Setting
at_points c box = record {
  scope = c.scope ++ spans box;
  iterators = c.iterators;
  point = levels (length c.scope) (spans box);
}

abbrev pub lowered : Setting → Typed → Tree
lowered c (number z) = lit z
lowered c (iterator k) = variable (slice_index_or c.iterators k (Const (pos 0)))
lowered c (cell coverage field) = read coverage field c.point
lowered c (unary op e) = op1 op (lowered c e)
lowered c (binary op l r) = op2 op (lowered c l) (lowered c r)
lowered c (scalar e) = lowered (at_scalar c) e
lowered c (select e) = lowered c e
lowered c (bracket e) = lowered c e
lowered c (slice e axis lo hi i) = bind (lowered (at_scalar c) i) lo hi (lowered (at_slice c axis lo hi) e)
lowered c (array e) = lowered (at_iterators c) e
lowered c (listed box items) = table box items c.point
lowered c (condense op box e) = fold op box always (lowered (at_box c box) e)
lowered c (condense_where op box b e) = fold op box (lowered (at_box c box) b) (lowered (at_box c box) e)
lowered c (reduce op box e) = fold op box always (lowered (at_points c box) e)

-- a field of a node where the code lowers it
abbrev pub field_at : Context → Node → ℕ → Tree
field_at c e field = lowered (setting_of c) (field_tree e field)

-- a field of a scalar there
abbrev pub scalar_at : Context → Node → ℕ → Tree
scalar_at c e field = lowered (at_scalar (setting_of c)) (field_tree e field)

-- a tree where the code lowers it
abbrev pub tree_at : Context → Typed → Tree
tree_at c e = lowered (setting_of c) e

-- a field of a node, where a coordinate of the point is a variable over an interval
abbrev pub slice_at : Context → ℕ → Interval → Node → ℕ → Tree
slice_at c axis interval e field = lowered (at_slice (setting_of c) axis interval.lo interval.hi) (field_tree e field)

-- a condenser with a condition
abbrev pub chosen : Aggregate → List Axis → Node → Node → Typed
chosen op box c e = condense_where op box (field_tree c 0) (field_tree e 0)
