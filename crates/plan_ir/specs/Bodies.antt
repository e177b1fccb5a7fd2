-- Bodies as values alone, without where they lie in memory.
use Rattle.std.specs.Prelude.{ℕ, ℤ, pos, List, Option, Some, None}
use Rattle.arr_core.specs.declared.domain.Axis.{Axis}
use Rattle.wcps_text.specs.declared.operator.UnaryOperator.{UnaryOperator}
use Rattle.wcps_text.specs.declared.operator.BinaryOperator.{BinaryOperator}
use Rattle.wcps_text.specs.declared.operator.Aggregate.{Aggregate}
use Rattle.plan_ir.specs.declared.body.Index.{Index}
use Rattle.plan_ir.specs.declared.body.Fold.{Fold}
use Rattle.plan_ir.specs.declared.body.Body.{Body, Lit, Var, Reg, Op1', Op2', Read, Table, Bind', Fold', Held-Fold-condition, None', Some'}

-- What gives a value at a point, under variables by their levels; see `Body`.
pub data Tree : Type 0 where
  lit : ℤ → Tree
  var : ℕ → Tree
  reg : ℕ → Tree
  op1 : UnaryOperator → Tree → Tree
  op2 : BinaryOperator → Tree → Tree → Tree
  -- the coverage, the field, and an index for each axis
  read : ℕ → ℕ → List Index → Tree
  table : List Axis → List ℤ → List Index → Tree
  -- the position, its bounds, and the body
  bind : Tree → ℤ → ℤ → Tree → Tree
  -- the condition, then the body
  fold : Aggregate → List Axis → Tree → Tree → Tree

-- what is true at each point
abbrev pub always : Tree
always = lit (pos 1)

abbrev mutual
  -- the tree of a body
  pub body_view : Body → Tree
  body_view (Lit z) = lit z
  body_view (Var k) = var k
  body_view (Reg k) = reg k
  body_view (Op1' op p e) = op1 op (body_view e)
  body_view (Op2' op p l q r) = op2 op (body_view l) (body_view r)
  body_view (Read c f is) = read c f is.items
  body_view (Table box items is) = table box items.items is.items
  body_view (Bind' p i interval q e) = bind (body_view i) interval.lo interval.hi (body_view e)
  body_view (Fold' p op box c e) = fold op box (held_view c) (body_view e)

  -- a fold without a condition is one with a condition that is always true
  pub held_view : Held-Fold-condition → Tree
  held_view None' = always
  held_view (Some' c) = body_view c

abbrev pub condition_view : Option Body → Tree
condition_view None = always
condition_view (Some c) = body_view c

-- the tree of a fold
abbrev pub fold_view : Fold → Tree
fold_view f = fold f.op f.domain (condition_view f.condition) (body_view f.body)
