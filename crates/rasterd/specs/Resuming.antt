-- What a call tells that was made again as long as it was interrupted.
use Rattle.std.specs.Prelude.{◌≡◌, ℕ, zero, suc, ◌<◌, ◌≤◌, List, [], ◌∷◌, Option, Result, Ok, Err, ⊤}
use Rattle.stream_face.specs.Faults.{one_more_failure}

-- how often a call is made at most
abbrev pub max_tries : ℕ
max_tries = 1000

-- what is told once so many more calls have failed
abbrev pub more_failures : ℕ → Option ℕ → Option ℕ
more_failures zero old = old
more_failures (suc calls) old = one_more_failure (more_failures calls old)

-- at least one more call has failed, and at most as many as are made
abbrev pub HasFailed : Option ℕ → Option ℕ → Type 0
HasFailed old new = (calls : ℕ) × (0 < calls) × (calls ≤ max_tries) × (new ≡ more_failures calls old)

-- where none of some bytes was taken, a call of the writer has failed
abbrev pub TakesNothing : {E : Type 0} → Option ℕ → Option ℕ → Result ℕ E → List ℕ → Type 0
TakesNothing old new (Ok zero) (byte ∷ bytes) = HasFailed old new
TakesNothing old new (Ok zero) [] = ⊤
TakesNothing old new (Ok (suc count)) bytes = ⊤
TakesNothing old new (Err error) bytes = ⊤
