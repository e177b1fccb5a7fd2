-- What a body gives.
use Rattle.std.specs.Prelude.{ℕ, ℤ, pos, List, [], ◌∷◌, ◌++◌, map, slice_index_or}
use Rattle.std.specs.List.{flat_map}
use Rattle.arr_core.specs.Domains.{points, rank_of}
use Rattle.wcps_mean.specs.declared.cell.Outcome.{Outcome}
use Rattle.wcps_mean.specs.declared.cell.Outcome.TheVariants.{Value}
use Rattle.wcps_mean.specs.Cells.{operate1, operate2, at_position}
use Rattle.wcps_mean.specs.Condensers.{condensed, demanded}
use Rattle.plan_ir.specs.declared.body.Index.{Index}
use Rattle.plan_ir.specs.declared.body.Index.TheVariants.{Const, Var}
use Rattle.plan_ir.specs.Bodies.{Tree, lit, var, reg, op1, op2, read, table, bind, fold}

-- the coordinate that an index stands for, where vars are the numbers of the variables
abbrev pub number_at : List ℤ → Index → ℤ
number_at vars (Const z) = z
number_at vars (Var k) = slice_index_or vars k (pos 0)

-- the point of the indexes
abbrev pub numbers_at : List ℤ → List Index → List ℤ
numbers_at vars is = map (number_at vars) is

-- The outcome of a body, where vars are the numbers of its variables; s gives the cell of a coverage and a field at
-- each point, regs are the outcomes of the passes. An operation is taken of its operands' outcomes, the left one first.
-- A bind first takes its position, then tests it against lo to hi, then goes on with one more variable. A fold lists
-- all points of its box; each gives what is demanded of it: the condition's fault, nothing where the condition is
-- false, else the body's outcome.
abbrev pub run : (ℕ → ℕ → List ℤ → ℤ) → List Outcome → Tree → List ℤ → Outcome
run s regs (lit z) vars = Value z
run s regs (var k) vars = Value (slice_index_or vars k (pos 0))
run s regs (reg k) vars = slice_index_or regs k (Value (pos 0))
run s regs (op1 op e) vars = operate1 op (run s regs e vars)
run s regs (op2 op l r) vars = operate2 op (run s regs l vars) (run s regs r vars)
run s regs (read c f is) vars = Value (s c f (numbers_at vars is))
run s regs (table box items is) vars = Value (slice_index_or items (rank_of box (numbers_at vars is)) (pos 0))
run s regs (bind i lo hi e) vars = at_position (run s regs i vars) lo hi (λ z. run s regs e (vars ++ z ∷ []))
run s regs (fold op box c e) vars =
    condensed op (flat_map (λ x. demanded (run s regs c (vars ++ x)) (run s regs e (vars ++ x))) (points box))
