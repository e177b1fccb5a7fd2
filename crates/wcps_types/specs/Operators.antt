-- The checks of operators and reductions on operands whose shapes are known, and what they make of them.
use Rattle.std.specs.Prelude.{ℕ, List, [], ◌∷◌, Bool, true, false, cond, not, ◌&&◌, ◌||◌, Ok, Err}
use Rattle.std.specs.Ordering.{int_eq}
use Rattle.std.specs.Str.{bytes_eq}
use Rattle.arr_core.specs.declared.domain.Axis.{Axis}
use Rattle.wcps_text.specs.declared.operator.UnaryOperator.{UnaryOperator}
use Rattle.wcps_text.specs.declared.operator.UnaryOperator.TheVariants as unaries
use Rattle.wcps_text.specs.declared.operator.BinaryOperator.{BinaryOperator}
use Rattle.wcps_text.specs.declared.operator.BinaryOperator.TheVariants as binaries
use Rattle.wcps_text.specs.declared.operator.Aggregate.{Aggregate}
use Rattle.wcps_text.specs.declared.operator.Aggregate.TheVariants as aggregates
use Rattle.wcps_types.specs.declared.refusal.TypeRefusal.TheVariants.{NoSuchField, DomainMismatch, NeedsBoolean, NeedsInteger}
use Rattle.wcps_types.specs.declared.operators.Operands.{Operands}
use Rattle.wcps_types.specs.Typed as typed
use Rattle.wcps_types.specs.Typed.{Typed, boxed_tree}
use Rattle.wcps_types.specs.Names.{is_name_of}
use Rattle.wcps_types.specs.Shapes.{SlotTree, ShapeTree, FieldOf, Answer, then_of, is_scalar, unnamed, only_field}

-- a field alone, which keeps its name
abbrev pub one_selected : List Axis → SlotTree → ShapeTree
one_selected axes s = record {
  domain = axes;
  fields =
      record { name = s.name; boolean = s.boolean; tree = typed.select s.tree } ∷ [];
}

-- the field of that name
abbrev pub selected : List ℕ → List Axis → List SlotTree → Answer ShapeTree
selected name axes [] = Err NoSuchField
selected name axes (s ∷ more) = cond (is_name_of name s.name) (Ok (one_selected axes s)) (selected name axes more)

-- the integer that an operation makes of a field
abbrev pub made_of : UnaryOperator → FieldOf → Answer ShapeTree
made_of op f = Ok (unnamed f.domain false (typed.unary op f.tree))

abbrev pub negated : FieldOf → Answer ShapeTree
negated f = cond f.boolean (Ok (unnamed f.domain true (typed.unary unaries.Not f.tree))) (Err NeedsBoolean)

-- `-`, `+` and `abs` give an integer; `not` needs a Boolean and gives one
abbrev pub unary : UnaryOperator → ShapeTree → Answer ShapeTree
unary unaries.Negate e = then_of (only_field e.domain e.fields) (made_of unaries.Negate)
unary unaries.Plus e = then_of (only_field e.domain e.fields) (made_of unaries.Plus)
unary unaries.Absolute e = then_of (only_field e.domain e.fields) (made_of unaries.Absolute)
unary unaries.Not e = then_of (only_field e.domain e.fields) negated

-- the same name and bounds
abbrev pub is_same_axis : Axis → Axis → Bool
is_same_axis a b = (bytes_eq a.name b.name && int_eq a.lo b.lo) && int_eq a.hi b.hi

-- the same axes in the same order
abbrev pub are_same : List Axis → List Axis → Bool
are_same [] bs = is_scalar bs
are_same (a ∷ as') [] = false
are_same (a ∷ as') (b ∷ bs) = is_same_axis a b && are_same as' bs

-- two operands on one domain
pub record OperandTrees : Type 0 where
  pub domain : List Axis
  pub left : Typed
  pub right : Typed

abbrev pub operands_view : Operands → OperandTrees
operands_view o = record { domain = o.domain; left = boxed_tree o.left; right = boxed_tree o.right }

-- a scalar on the left of an operand with axes, and on its right
abbrev pub scalar_first : Typed → FieldOf → OperandTrees
scalar_first s other = record { domain = other.domain; left = typed.scalar s; right = other.tree }

abbrev pub scalar_last : FieldOf → Typed → OperandTrees
scalar_last other s = record { domain = other.domain; left = other.tree; right = typed.scalar s }

-- a scalar goes with every point of an operand with axes; two operands with axes have the same domain
abbrev pub joined : FieldOf → FieldOf → Answer OperandTrees
joined l r =
    cond (is_scalar l.domain && not (is_scalar r.domain)) (Ok (scalar_first l.tree r))
    (cond (is_scalar r.domain && not (is_scalar l.domain)) (Ok (scalar_last l r.tree))
    (cond (are_same l.domain r.domain) (Ok (record { domain = l.domain; left = l.tree; right = r.tree }))
    (Err DomainMismatch)))

abbrev pub binary_shape : BinaryOperator → Bool → OperandTrees → Answer ShapeTree
binary_shape op boolean o = Ok (unnamed o.domain boolean (typed.binary op o.left o.right))

-- an operation on numbers, where a Boolean counts as 0 or 1: one field each, then the domains
abbrev pub numeric : BinaryOperator → Bool → ShapeTree → ShapeTree → Answer ShapeTree
numeric op boolean l r =
    then_of (only_field l.domain l.fields)
    (λ (f : FieldOf). then_of (only_field r.domain r.fields)
    (λ (g : FieldOf). then_of (joined f g) (binary_shape op boolean)))

-- an operation on Booleans: one field each, then the kinds, then the domains
abbrev pub logical : BinaryOperator → ShapeTree → ShapeTree → Answer ShapeTree
logical op l r =
    then_of (only_field l.domain l.fields)
    (λ (f : FieldOf). then_of (only_field r.domain r.fields)
    (λ (g : FieldOf). cond (not f.boolean || not g.boolean) (Err NeedsBoolean)
    (then_of (joined f g) (binary_shape op true))))

-- arithmetic gives integers, comparisons and logic Booleans
abbrev pub binary : BinaryOperator → ShapeTree → ShapeTree → Answer ShapeTree
binary binaries.Multiply l r = numeric binaries.Multiply false l r
binary binaries.Divide l r = numeric binaries.Divide false l r
binary binaries.Add l r = numeric binaries.Add false l r
binary binaries.Subtract l r = numeric binaries.Subtract false l r
binary binaries.Less l r = numeric binaries.Less true l r
binary binaries.LessEqual l r = numeric binaries.LessEqual true l r
binary binaries.Greater l r = numeric binaries.Greater true l r
binary binaries.GreaterEqual l r = numeric binaries.GreaterEqual true l r
binary binaries.Equal l r = numeric binaries.Equal true l r
binary binaries.NotEqual l r = numeric binaries.NotEqual true l r
binary binaries.And l r = logical binaries.And l r
binary binaries.Or l r = logical binaries.Or l r
binary binaries.Xor l r = logical binaries.Xor l r
binary binaries.Bit l r = numeric binaries.Bit true l r

abbrev pub reduced_integer : Aggregate → FieldOf → Answer ShapeTree
reduced_integer op f = cond f.boolean (Err NeedsInteger) (Ok (unnamed [] false (typed.reduce op f.domain f.tree)))

-- of integers
abbrev pub integer_reduction : Aggregate → ShapeTree → Answer ShapeTree
integer_reduction op e = then_of (only_field e.domain e.fields) (reduced_integer op)

abbrev pub reduced_boolean : Aggregate → Bool → FieldOf → Answer ShapeTree
reduced_boolean op boolean f =
    cond f.boolean (Ok (unnamed [] boolean (typed.reduce op f.domain f.tree))) (Err NeedsBoolean)

-- of Booleans
abbrev pub boolean_reduction : Aggregate → Bool → ShapeTree → Answer ShapeTree
boolean_reduction op boolean e = then_of (only_field e.domain e.fields) (reduced_boolean op boolean)

-- a reduction gives a scalar: `some` and `all` a Boolean, the others an integer
abbrev pub reduction : Aggregate → ShapeTree → Answer ShapeTree
reduction aggregates.Sum e = integer_reduction aggregates.Sum e
reduction aggregates.Product e = integer_reduction aggregates.Product e
reduction aggregates.Greatest e = integer_reduction aggregates.Greatest e
reduction aggregates.Least e = integer_reduction aggregates.Least e
reduction aggregates.Every e = boolean_reduction aggregates.Every true e
reduction aggregates.Any e = boolean_reduction aggregates.Any true e
reduction aggregates.Count e = boolean_reduction aggregates.Count false e
reduction aggregates.Average e = integer_reduction aggregates.Average e
