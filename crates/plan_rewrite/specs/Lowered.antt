-- What lowering promises: of a body for an expression, of steps for a combination, and of a plan for a query.
use Rattle.std.specs.Prelude.{◌≡◌, ℕ, ◌+◌, ◌*◌, ◌≤◌, ℤ, List, ◌++◌, length, Some, slice_get}
use Rattle.arr_core.specs.declared.domain.Axis.{Axis}
use Rattle.arr_core.specs.declared.signature.Signature.{Signature}
use Rattle.wcps_types.specs.Typed.{Typed, CombinationTree, TypedTree}
use Rattle.wcps_types.specs.WellTyped.{IsTyped, CombinationIsTyped}
use Rattle.wcps_types.specs.Work.{condition_work, item_work, query_work}
use Rattle.wcps_mean.specs.declared.cell.Outcome.{Outcome}
use Rattle.wcps_mean.specs.Meaning.{val}
use Rattle.wcps_mean.specs.Answer.{answer, combination_answer}
use Rattle.plan_ir.specs.Bodies.{Tree}
use Rattle.plan_ir.specs.Plans.{StepsTree, PlanTree}
use Rattle.plan_ir.specs.Run.{run}
use Rattle.plan_ir.specs.Planned.{planned, steps_planned}
use Rattle.plan_ir.specs.Placed.{spans, IsPlaced, AreSteps}
use Rattle.plan_ir.specs.Units.{steps_units}

-- The variables of the body are the iterators and behind them the coordinates of the point. It gives what the tree
-- gives there, and where the tree is well typed each of its reads has its place.
pub record IsBodyFor (iterators axes : List Axis) (t : Typed) (b : Tree) : Type 0 where
  pub value : (s : ℕ → ℕ → List ℤ → ℤ) (regs : List Outcome) (env p : List ℤ) → length env ≡ length iterators
      → length p ≡ length axes
      → run s regs b (env ++ p) ≡ val s t env p
  pub placed : (cs : List Signature) (regs : ℕ) → IsTyped cs t iterators axes
      → IsPlaced (slice_get cs) regs (spans iterators ++ spans axes) b

-- The steps give what the combination answers, each of their reads has its place where it is well typed, and they have
-- at most one unit more than its work.
pub record AreStepsFor (c : CombinationTree) (t : StepsTree) : Type 0 where
  pub planned : (s : ℕ → ℕ → List ℤ → ℤ) → steps_planned s t ≡ combination_answer s c
  pub placed : (cs : List Signature) → CombinationIsTyped cs c → AreSteps (slice_get cs) t
  pub units : steps_units (Some t) ≤ 1 + (condition_work c.condition + item_work c.item)

-- the plan gives the query's answer over every store
abbrev pub Answers : TypedTree → PlanTree → Type 0
Answers q p = (s : ℕ → ℕ → List ℤ → ℤ) → planned s p ≡ answer s q

-- the number of combinations times two more than their work
abbrev pub work_bound : List CombinationTree → ℕ
work_bound all = length all * (2 + query_work all)
