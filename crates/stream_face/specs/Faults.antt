-- What a reader or a writer tells of its faults: how many of its calls have failed so far, or nothing.
use Rattle.std.specs.Prelude.{◌≡◌, ℕ, zero, suc, ◌+◌, ◌-◌, ◌^◌, ◌≤◌, min, List, [], ◌∷◌, length, take, Bool, true, false, Option, None, Some, Result, Ok, Err}
use Rattle.std.specs.Io.KnownBytes.{Appends}
use Rattle.stream_face.specs.Views.{SinkView}

-- what is told once one more call has failed: a count that is one greater, or stays at the last value of a `u64`
abbrev pub one_more_failure : Option ℕ → Option ℕ
one_more_failure None = None
one_more_failure (Some failures) = Some (min (failures + 1) (2 ^ 64 - 1))

-- a call that fails is counted once, and no other is
abbrev pub TellsRead : {T E : Type 0} → Option ℕ → Option ℕ → Result T E → Type 0
TellsRead old new (Ok value) = new ≡ old
TellsRead old new (Err error) = new ≡ one_more_failure old

-- what is told once so many of these bytes were taken: none of some is a failure
abbrev pub told_of_count : ℕ → List ℕ → Option ℕ → Option ℕ
told_of_count (suc n) bytes old = old
told_of_count zero [] old = old
told_of_count zero (byte ∷ bytes) old = one_more_failure old

-- a write that fails or takes none of some bytes is counted once, and no other is
abbrev pub TellsWrite : {E : Type 0} → Option ℕ → Option ℕ → Result ℕ E → List ℕ → Type 0
TellsWrite old new (Ok count) bytes = new ≡ told_of_count count bytes old
TellsWrite old new (Err error) bytes = new ≡ one_more_failure old

-- a first part of the bytes went out
abbrev pub AppendsPrefix : Option (List ℕ) → Option (List ℕ) → List ℕ → Type 0
AppendsPrefix old new bytes = (n : ℕ) × (n ≤ length bytes) × Appends old new (take n bytes)

-- All of the bytes went out, and no call failed; or a first part of them did, and exactly one call failed, so that none
-- that could fail was made behind it.
abbrev pub Sent : SinkView → SinkView → Bool → List ℕ → Type 0
Sent old new true bytes = Appends old.contents new.contents bytes × (new.failures ≡ old.failures)
Sent old new false bytes =
    AppendsPrefix old.contents new.contents bytes × (new.failures ≡ one_more_failure old.failures)

-- what had gone out since any moment still has, or a first part of it where a call failed
abbrev pub KeepsSent : SinkView → SinkView → Bool → Bool → Type 0
KeepsSent old new before now = (first : SinkView) (text : List ℕ) → Sent first old before text → Sent first new now text
