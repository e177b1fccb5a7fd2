-- The places of a column that count.
use Rattle.std.specs.Prelude.{◌≡◌, ℕ, zero, suc, ◌+◌, ◌<◌, ℤ, List, [], ◌∷◌, ◌++◌, length, replicate, cond, Bool}
use Rattle.wcps_mean.specs.declared.cell.Outcome.{Outcome}
use Rattle.wcps_mean.specs.Condensers.{demanded}
use Rattle.tile_kernel.specs.Columns.{outcome_at}

-- the values at the first n places, each as often as it counts
abbrev pub selected : (ℕ → ℕ) → (ℕ → ℤ) → ℕ → List ℤ
selected times value zero = []
selected times value (suc n) = selected times value n ++ replicate (times n) (value n)

-- how often the first n places count
abbrev pub taken_in : (ℕ → ℕ) → ℕ → ℕ
taken_in times zero = 0
taken_in times (suc n) = taken_in times n + times n

-- outcomes, each as often as it counts
abbrev pub taken : (ℕ → ℕ) → List Outcome → List Outcome
taken times [] = []
taken times (o ∷ os) = replicate (times 0) o ++ taken (λ k. times (suc k)) os

-- a condition has no fault, and is true where a place counts
abbrev pub Chooses : (ℕ → Bool) → List Outcome → Type 0
Chooses counts condition = (k : ℕ) (o : Outcome) → k < length condition
    → demanded (outcome_at condition k) o ≡ cond (counts k) (o ∷ []) []
