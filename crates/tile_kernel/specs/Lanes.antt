-- Vectors of two lanes, as lists.
use Rattle.std.specs.Prelude.{◌≡◌, ℕ, ◌+◌, ℤ, pos, ◌≤ℤ◌, List, length, slice_index_or, FitsSigned}
use Rattle.std.specs.Int.{w64}
use Rattle.wcps_mean.specs.declared.cell.Outcome.{Outcome}
use Rattle.wcps_mean.specs.declared.cell.Outcome.TheVariants.{Value}
use Rattle.tile_kernel.specs.Columns.{AreValues}

abbrev pub first : List ℤ → ℤ
first lanes = slice_index_or lanes 0 (pos 0)

abbrev pub second : List ℤ → ℤ
second lanes = slice_index_or lanes 1 (pos 0)

-- two lanes of 64 bits
pub record IsPair (lanes : List ℤ) : Type 0 where
  pub two : length lanes ≡ 2
  pub first_fits : FitsSigned w64 (first lanes)
  pub second_fits : FitsSigned w64 (second lanes)

-- the lanes are the values at a place and at the next one
pub record AreAt (value : ℕ → ℤ) (place : ℕ) (lanes : List ℤ) : Type 0 where
  pub here : first lanes ≡ value place
  pub next : second lanes ≡ value (place + 1)

-- each lane is a function of the same lane
pub record AreEach (f : ℤ → ℤ) (xs lanes : List ℤ) : Type 0 where
  pub here : first lanes ≡ f (first xs)
  pub next : second lanes ≡ f (second xs)

-- no mark is negative
pub record AreSure (marks : List ℤ) : Type 0 where
  pub here : pos 0 ≤ℤ first marks
  pub next : pos 0 ≤ℤ second marks

-- where a lane's mark is not negative, its value is that of the operation on both operands' lanes
pub record AreTried (exact : ℤ → ℤ → Outcome) (xs ys values marks : List ℤ) : Type 0 where
  pub here : pos 0 ≤ℤ first marks → exact (first xs) (first ys) ≡ Value (first values)
  pub next : pos 0 ≤ℤ second marks → exact (second xs) (second ys) ≡ Value (second values)

-- if the first `from` numbers were the outcomes' values, so far as the marks before tell, then so are now n more of
-- them, so far as the marks tell
abbrev pub GoesOn : ℕ → (ℕ → Outcome) → ℕ → List ℤ → List ℤ → List ℤ → List ℤ → Type 0
GoesOn n outcomes from marks cells more now =
    (AreSure marks → AreValues from outcomes cells) → AreSure more → AreValues (from + n) outcomes now
