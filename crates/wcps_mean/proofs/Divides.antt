-- Quotients that are tested.
use Rattle.std.proofs.Common.{◌≡◌, zero, suc, ℤ, pos, negsuc, int_div, Option, Some, None, SomeIff, FitsSigned, arith}
use Rattle.std.specs.Int.{w64, CanDivide, IsNonZero}
use Rattle.wcps_mean.specs.declared.cell.Outcome.{Outcome}
use Rattle.wcps_mean.specs.Cells.{ranged, quotient}

-- a divisor that is not 0 leaves the range test alone
only_fits : (x y z : ℤ) (o : Option ℤ) → IsNonZero w64 y → SomeIff o (IsNonZero w64 y × FitsSigned w64 z) z → SomeIff o (FitsSigned w64 z) z
only_fits x y z None p h = λ f. h (p, f)
only_fits x y z (Some v) p h = (h.0.1, h.1)

pub tested_quotient : (x y : ℤ) (o : Option ℤ) (r : Outcome) → IsNonZero w64 y → SomeIff o (CanDivide w64 x y) (int_div x y) → ((z : ℤ) → SomeIff o (FitsSigned w64 z) z → r ≡ ranged z) → r ≡ quotient x y
tested_quotient x (pos zero) o r p h f = absurd (omega arith)
tested_quotient x (pos (suc n)) o r p h f = f (int_div x (pos (suc n))) (only_fits x (pos (suc n)) (int_div x (pos (suc n))) o p h)
tested_quotient x (negsuc n) o r p h f = f (int_div x (negsuc n)) (only_fits x (negsuc n) (int_div x (negsuc n)) o p h)
