-- The registers of passes.
use Rattle.std.proofs.Common.{◌≡◌, ℕ, ℤ, List, [], ◌∷◌, ◌++◌, refl}
use Rattle.wcps_mean.specs.declared.cell.Outcome.{Outcome}
use Rattle.plan_ir.specs.Plans.{PassTree}
use Rattle.plan_ir.specs.Planned.{pass_outcome, registers_after}

-- the registers of one pass more
pub registers_more : (s : ℕ → ℕ → List ℤ → ℤ) (regs : List Outcome) (ps : List PassTree) (p : PassTree) → registers_after s regs (ps ++ p ∷ []) ≡ registers_after s regs ps ++ pass_outcome s (registers_after s regs ps) p ∷ []
registers_more s regs [] p = refl
registers_more s regs (q ∷ ps) p = registers_more s (regs ++ pass_outcome s regs q ∷ []) ps p
