-- A call that fails behind some that did, and a write that takes none of some bytes behind them.
use Rattle.std.proofs.Common.{◌≡◌, ℕ, zero, suc, ◌<◌, List, [], ◌∷◌, Option, Ok, ap, ◌∙◌, arith}
use Rattle.stream_face.specs.Faults.{one_more_failure, told_of_count}
use Rattle.rasterd.specs.Resuming.{more_failures, HasFailed, TakesNothing}

-- one call more fails
pub failed_once_more : (old mid new : Option ℕ) (calls : ℕ) → calls < 1000 → mid ≡ more_failures calls old
    → new ≡ one_more_failure mid → HasFailed old new
failed_once_more old mid new calls few before told =
    (suc calls, omega arith, omega (arith, few), told ∙ ap one_more_failure before)

-- to take none of some bytes is a failure
pub took_nothing : (E : Type 0) (old mid new : Option ℕ) (calls count : ℕ) (bytes : List ℕ) → calls < 1000
    → mid ≡ more_failures calls old → new ≡ told_of_count count bytes mid → TakesNothing {E = E} old new (Ok count) bytes
took_nothing E old mid new calls zero [] few before told = tt
took_nothing E old mid new calls zero (byte ∷ bytes) few before told = failed_once_more old mid new calls few before told
took_nothing E old mid new calls (suc count) bytes few before told = tt
