-- Hoisting: a fold that uses no variable from outside it becomes a pass, and its register stands in its place.
use Rattle.std.specs.Prelude.{ℕ, ◌+◌, ◌&&◌, cond, List, [], ◌∷◌, ◌++◌, length, slice_index_or}
use Rattle.plan_ir.specs.Bodies.{Tree, lit, var, reg, op1, op2, read, table, bind, fold}
use Rattle.plan_ir.specs.Plans.{PassTree}
use Rattle.plan_ir.specs.Variables.{is_from, without}
use Rattle.plan_rewrite.specs.Views.{pass_of}

-- a body, and all passes so far
pub record Hoist : Type 0 where
  pub passes : List PassTree
  pub body : Tree

abbrev pub in_body : (Tree → Tree) → Hoist → Hoist
in_body f h = record { passes = h.passes; body = f h.body }

abbrev pub pass_without : ℕ → PassTree → PassTree
pass_without n f = pass_of f.op f.domain (without n f.condition) (without n f.body)

-- a fold under n variables: a pass where it uses none of them
abbrev pub pass_or_fold : ℕ → List PassTree → PassTree → Hoist
pass_or_fold n passes f = cond (is_from n f.condition && is_from n f.body)
    (record { passes = passes ++ pass_without n f ∷ []; body = reg (length passes) })
    (record { passes = passes; body = fold f.op f.domain f.condition f.body })

-- A body under n variables, with passes before it: its closed folds have become further passes, the innermost first.
-- regs has the place of each old register.
abbrev pub hoisting : List ℕ → ℕ → List PassTree → Tree → Hoist
hoisting regs n passes (lit z) = record { passes = passes; body = lit z }
hoisting regs n passes (var k) = record { passes = passes; body = var k }
hoisting regs n passes (reg k) = record { passes = passes; body = reg (slice_index_or regs k 0) }
hoisting regs n passes (op1 op e) = in_body (op1 op) (hoisting regs n passes e)
hoisting regs n passes (op2 op l r) =
    in_body (op2 op (hoisting regs n passes l).body) (hoisting regs n (hoisting regs n passes l).passes r)
hoisting regs n passes (read c f is) = record { passes = passes; body = read c f is }
hoisting regs n passes (table box items is) = record { passes = passes; body = table box items is }
hoisting regs n passes (bind i lo hi e) =
    in_body (bind (hoisting regs n passes i).body lo hi) (hoisting regs (n + 1) (hoisting regs n passes i).passes e)
hoisting regs n passes (fold op box c e) =
    pass_or_fold n (hoisting regs (n + length box) (hoisting regs (n + length box) passes c).passes e).passes
    (pass_of op box (hoisting regs (n + length box) passes c).body
    (hoisting regs (n + length box) (hoisting regs (n + length box) passes c).passes e).body)
