-- What rewriting promises of a plan: it means the same, no bind is left that could be inlined, and no fold that is
-- closed.
use Rattle.std.specs.Prelude.{◌≡◌, ℕ, ℤ, ◌&&◌, false, List, length, None}
use Rattle.plan_ir.specs.Plans.{PlanTree}
use Rattle.plan_ir.specs.Planned.{planned}
use Rattle.plan_ir.specs.Variables.{is_from}
use Rattle.plan_rewrite.specs.Inlining.{stand_in}
use Rattle.plan_rewrite.specs.Everywhere.{Rule}

-- the new plan gives what the old one gives, faults included, over every store
abbrev pub MeansSame : PlanTree → PlanTree → Type 0
MeansSame old new = (s : ℕ → ℕ → List ℤ → ℤ) → planned s new ≡ planned s old

-- no bind has as its position a literal inside its interval, or a variable whose own interval lies inside it
abbrev pub NoInlinableBind : Rule
NoInlinableBind = record { binds = λ scope b. stand_in scope b.lo b.hi b.position ≡ None; folds = λ scope f. Unit {0} }

-- each fold uses a variable from outside it
abbrev pub NoFoldIsClosed : Rule
NoFoldIsClosed = record {
  binds = λ scope b. Unit {0};
  folds = λ scope f. (is_from (length scope) f.condition && is_from (length scope) f.body) ≡ false;
}
