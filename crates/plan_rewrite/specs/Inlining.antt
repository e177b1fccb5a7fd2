-- Inlining: a body with its variables renamed, and without the binds whose position is a literal or a variable inside
-- their interval.
use Rattle.std.specs.Prelude.{ℕ, ◌+◌, ℤ, pos, int_le, ◌&&◌, cond, List, [], ◌∷◌, ◌++◌, map, length, slice_get, slice_index_or, Option, Some, None, option_and_then}
use Rattle.wcps_mean.specs.declared.cell.Outcome.{Outcome}
use Rattle.wcps_mean.specs.declared.cell.Outcome.TheVariants.{Value, Fault}
use Rattle.wcps_mean.specs.Cells.{exact1}
use Rattle.plan_ir.specs.declared.body.Index.{Index}
use Rattle.plan_ir.specs.declared.body.Index.TheVariants.{Const, Var}
use Rattle.plan_ir.specs.declared.body.Interval.{Interval}
use Rattle.plan_ir.specs.Bodies.{Tree, lit, var, reg, op1, op2, read, table, bind, fold}
use Rattle.plan_ir.specs.Placed.{spans}
use Rattle.plan_ir.specs.Plans.{PassTree}
use Rattle.plan_rewrite.specs.Views.{pass_of}

-- what has the number of an index at each point
abbrev pub variable : Index → Tree
variable (Const z) = lit z
variable (Var k) = var k

-- the index that stands for an index, where env has one for each variable
abbrev pub index_for : List Index → Index → Index
index_for env (Const z) = Const z
index_for env (Var k) = slice_index_or env k (Const (pos 0))

-- n variables from level k on
abbrev pub levels : ℕ → List Interval → List Index
levels k [] = []
levels k (i ∷ is) = Var k ∷ levels (k + 1) is

abbrev pub value_of : Outcome → Option ℤ
value_of (Value z) = Some z
value_of (Fault f) = None

-- the number of a literal, which may have signs
abbrev pub literal : Tree → Option ℤ
literal (lit z) = Some z
literal (var k) = None
literal (reg k) = None
literal (op1 op e) = option_and_then (λ z. value_of (exact1 op z)) (literal e)
literal (op2 op l r) = None
literal (read c f is) = None
literal (table box items is) = None
literal (bind i lo hi e) = None
literal (fold op box c e) = None

-- a constant that lies from lo to hi
abbrev pub constant_in : ℤ → ℤ → Option ℤ → Option Index
constant_in lo hi None = None
constant_in lo hi (Some z) = cond (int_le lo z && int_le z hi) (Some (Const z)) None

-- a variable all of whose numbers, of which there are some, lie from lo to hi
abbrev pub variable_in : ℤ → ℤ → ℕ → Option Interval → Option Index
variable_in lo hi k None = None
variable_in lo hi k (Some i) =
    cond (int_le i.lo i.hi) (cond (int_le lo i.lo && int_le i.hi hi) (Some (Var k)) None) None

-- What a position is inlined as: a literal inside the interval to its constant, a variable whose own interval lies
-- inside to itself. scope has the interval of each variable.
abbrev pub stand_in : List Interval → ℤ → ℤ → Tree → Option Index
stand_in scope lo hi (lit z) = constant_in lo hi (Some z)
stand_in scope lo hi (var k) = variable_in lo hi k (slice_get scope k)
stand_in scope lo hi (reg k) = None
stand_in scope lo hi (op1 op e) = constant_in lo hi (literal (op1 op e))
stand_in scope lo hi (op2 op l r) = None
stand_in scope lo hi (read c f is) = None
stand_in scope lo hi (table box items is) = None
stand_in scope lo hi (bind i l h e) = None
stand_in scope lo hi (fold op box c e) = None

-- a bind, or where its position is inlined as an index its body alone
abbrev pub bind_or_go : List Index → List Interval → ℤ → ℤ → Tree → Option Index → (List Index → List Interval → Tree)
    → Tree
bind_or_go env scope lo hi p (Some i) go = go (env ++ i ∷ []) scope
bind_or_go env scope lo hi p None go =
    bind p lo hi (go (env ++ Var (length scope) ∷ []) (scope ++ record { lo = lo; hi = hi } ∷ []))

-- A body under the variables of scope, where env has an index for each variable of the old one.
abbrev pub inlining : List Index → List Interval → Tree → Tree
inlining env scope (lit z) = lit z
inlining env scope (var k) = variable (slice_index_or env k (Const (pos 0)))
inlining env scope (reg k) = reg k
inlining env scope (op1 op e) = op1 op (inlining env scope e)
inlining env scope (op2 op l r) = op2 op (inlining env scope l) (inlining env scope r)
inlining env scope (read c f is) = read c f (map (index_for env) is)
inlining env scope (table box items is) = table box items (map (index_for env) is)
inlining env scope (bind p lo hi e) =
    bind_or_go env scope lo hi (inlining env scope p) (stand_in scope lo hi (inlining env scope p))
    (λ env' scope'. inlining env' scope' e)
inlining env scope (fold op box c e) =
    fold op box
    (inlining (env ++ levels (length scope) (spans box)) (scope ++ spans box) c)
    (inlining (env ++ levels (length scope) (spans box)) (scope ++ spans box) e)

-- the same of a fold, as its parts
abbrev pub inlined_fold : List Index → List Interval → PassTree → PassTree
inlined_fold env scope p =
    pass_of p.op p.domain
    (inlining (env ++ levels (length scope) (spans p.domain)) (scope ++ spans p.domain) p.condition)
    (inlining (env ++ levels (length scope) (spans p.domain)) (scope ++ spans p.domain) p.body)
