-- What a call that reads cells returns, and what it leaves as it is.
use Rattle.std.specs.Prelude.{◌≡◌, ℕ, ℤ, List, Result, IfOk}
use Rattle.wcps_mean.specs.declared.cells.Cells.{Ghosts}

-- the cell of a coverage and a field at each point
abbrev pub CellsOf : Type 0
CellsOf = ℕ → ℕ → List ℤ → ℤ

-- the cells and what is kept are as they were, and intact where they were
pub record Leaves {S : Type 0} (g : Ghosts S) (old new : S) : Type 0 where
  pub cells : g.cells new ≡ g.cells old
  pub kept : g.kept new ≡ g.kept old
  pub intact : g.intact old → g.intact new

-- where what is kept is intact, the result is this of the cells
abbrev pub Returns : {S A E : Type 0} → Ghosts S → S → Result A E → (CellsOf → A) → Type 0
Returns g store r f = IfOk r (λ x. g.intact store → x ≡ f (g.cells store))
