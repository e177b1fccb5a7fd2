-- The shape of an expression, or its first refusal: the parts from left to right, then the form's own checks.
use Rattle.std.specs.Prelude.{ℕ, pos, List, [], ◌++◌, true, false, cond, Option, Some, None, is_some, Ok, Err}
use Rattle.arr_core.specs.declared.domain.Axis.{Axis}
use Rattle.arr_core.specs.declared.signature.Signature.{Signature}
use Rattle.arr_core.specs.Domains.{axis_place}
use Rattle.wcps_text.specs.Tree as tree
use Rattle.wcps_text.specs.Tree.{Tree, Parts, no_parts, part, Subs, no_subs, sub, PlaceTree, trim, at, IntervalTree, bounds, Iters, no_iters, iter, Condition, always, only}
use Rattle.wcps_types.specs.declared.refusal.TypeRefusal.TheVariants.{NameTaken, AxisTwice}
use Rattle.wcps_types.specs.declared.bound.Bound.{Bound}
use Rattle.wcps_types.specs.Typed as typed
use Rattle.wcps_types.specs.Typed.{Typed}
use Rattle.wcps_types.specs.Shapes.{ShapeTree, FieldOf, ScalarOf, Answer, then_of, unnamed, only_field, only_scalar}
use Rattle.wcps_types.specs.Operators as operators
use Rattle.wcps_types.specs.Brackets.{BoundsOf, BracketTree, written_bounds, bounds_of_axis, opened, place_to_cut, with_trim, position_of, with_position, closed}
use Rattle.wcps_types.specs.Records.{PieceTrees, no_pieces, is_part, with_part, finished}
use Rattle.wcps_types.specs.Boxes.{IteratorTrees, no_iterators, is_taken, with_iterator, box_of, array_on, condition_of, condensed, value_list}
use Rattle.wcps_types.specs.Variables.{variable}

abbrev pub some_condition : Typed → Answer (Option Typed)
some_condition c = Ok (Some c)

abbrev pub closed_on : ShapeTree → BracketTree → Answer ShapeTree
closed_on s b = Ok (closed b s.fields)

abbrev pub array_of : List Axis → ShapeTree → Answer ShapeTree
array_of box s = then_of (only_scalar s) (array_on box)

abbrev pub condition_tree : ShapeTree → Answer (Option Typed)
condition_tree s = then_of (only_scalar s) (λ (t : ScalarOf). then_of (condition_of t) some_condition)

-- what is found where the coverages have those signatures, the `for` list those variables, and the iterators in scope
-- these, outermost first
abbrev pub Check : Type 0 → Type 0
Check A = List Signature → List Bound → List (List ℕ) → A

abbrev mutual
  pub typ : Check (Tree → Answer ShapeTree)
  typ cs bound scope (tree.number n) = Ok (unnamed [] false (typed.number (pos n)))
  typ cs bound scope (tree.truth b) = Ok (unnamed [] true (typed.number (cond b (pos 1) (pos 0))))
  typ cs bound scope (tree.variable x) = variable cs bound scope x
  typ cs bound scope (tree.unary op e) = then_of (typ cs bound scope e) (operators.unary op)
  typ cs bound scope (tree.binary op l r) =
      then_of (typ cs bound scope l) (λ (s : ShapeTree). then_of (typ cs bound scope r) (operators.binary op s))
  typ cs bound scope (tree.reduce op e) = then_of (typ cs bound scope e) (operators.reduction op)
  typ cs bound scope (tree.parts ps) = typ_parts cs bound scope no_pieces ps
  -- the iterators, then the box, then the list
  typ cs bound scope (tree.value_list is items) =
      then_of (typ_iters cs bound scope no_iterators is)
      (λ (i : IteratorTrees). then_of (box_of i.axes) (λ (box : List Axis). value_list box items))
  typ cs bound scope (tree.field e x) =
      then_of (typ cs bound scope e) (λ (s : ShapeTree). operators.selected x s.domain s.fields)
  typ cs bound scope (tree.brackets e ss) =
      then_of (typ cs bound scope e)
      (λ (s : ShapeTree). then_of (typ_subs cs bound scope (opened s.domain) ss) (closed_on s))
  -- the iterators, then the box, then the body in their scope
  typ cs bound scope (tree.coverage is e) =
      then_of (typ_iters cs bound scope no_iterators is)
      (λ (i : IteratorTrees). then_of (box_of i.axes)
      (λ (box : List Axis). then_of (typ cs bound (scope ++ i.variables) e) (array_of box)))
  -- the iterators, then the box, then the condition and the body in their scope
  typ cs bound scope (tree.condense op is c e) =
      then_of (typ_iters cs bound scope no_iterators is)
      (λ (i : IteratorTrees). then_of (box_of i.axes)
      (λ (box : List Axis). then_of (typ_condition cs bound (scope ++ i.variables) c)
      (λ (condition : Option Typed). then_of (typ cs bound (scope ++ i.variables) e)
      (λ (s : ShapeTree). then_of (only_scalar s) (condensed op box condition)))))

  -- the parts of a record: whether the name is given before, the expression, its one field, its domain
  pub typ_parts : Check (PieceTrees → Parts → Answer ShapeTree)
  typ_parts cs bound scope ps no_parts = Ok (finished ps)
  typ_parts cs bound scope ps (part x e more) =
      cond (is_part x ps.pieces) (Err NameTaken)
      (then_of (typ cs bound scope e)
      (λ (s : ShapeTree). then_of (only_field s.domain s.fields)
      (λ (f : FieldOf). then_of (with_part x f ps) (λ (qs : PieceTrees). typ_parts cs bound scope qs more))))

  -- the axes of a bracket in written order: first whether the axis is there and was not named before
  pub typ_subs : Check (BracketTree → Subs → Answer BracketTree)
  typ_subs cs bound scope b no_subs = Ok b
  typ_subs cs bound scope b (sub x p more) =
      then_of (then_of (place_to_cut x b) (λ (k : ℕ). typ_place cs bound scope k x b p))
      (λ (c : BracketTree). typ_subs cs bound scope c more)

  -- the axis at place k trimmed to an interval, or taken out at a position
  pub typ_place : Check (ℕ → List ℕ → BracketTree → PlaceTree → Answer BracketTree)
  typ_place cs bound scope k x b (trim i) =
      then_of (typ_interval cs bound scope i) (λ (i : BoundsOf). with_trim k x i b)
  typ_place cs bound scope k x b (at e) =
      then_of (typ cs bound scope e)
      (λ (s : ShapeTree). then_of (position_of s) (λ (position : Typed). Ok (with_position x position b)))

  pub typ_interval : Check (IntervalTree → Answer BoundsOf)
  typ_interval cs bound scope (bounds lo hi) = written_bounds lo hi
  typ_interval cs bound scope (tree.domain e x) =
      then_of (typ cs bound scope e) (λ (s : ShapeTree). bounds_of_axis x s.domain)

  -- an iterator list: whether the variable is taken, whether the axis was named before, the interval
  pub typ_iters : Check (IteratorTrees → Iters → Answer IteratorTrees)
  typ_iters cs bound scope is no_iters = Ok is
  typ_iters cs bound scope is (iter v x i more) =
      cond (is_taken bound scope is.variables v) (Err NameTaken)
      (cond (is_some (axis_place x is.axes)) (Err AxisTwice)
      (then_of (typ_interval cs bound scope i)
      (λ (i : BoundsOf). then_of (with_iterator v x i is)
      (λ (js : IteratorTrees). typ_iters cs bound scope js more))))

  -- what follows `where`, if it is there
  pub typ_condition : Check (Condition → Answer (Option Typed))
  typ_condition cs bound scope always = Ok None
  typ_condition cs bound scope (only e) = then_of (typ cs bound scope e) condition_tree

-- a value with a bracket behind it
abbrev pub typ_bracket : Check (ShapeTree → Subs → Answer ShapeTree)
typ_bracket cs bound scope s ss = then_of (typ_subs cs bound scope (opened s.domain) ss) (closed_on s)
