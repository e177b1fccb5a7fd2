-- What a writer tells of the bytes that wait for a flush: whether some do, or nothing.
use Rattle.std.specs.Prelude.{◌≡◌, ℕ, zero, suc, ⊤, Bool, true, false, Option, None, Some, Result, Ok, Err}

-- what is told once some bytes were taken
abbrev pub some_wait : Option Bool → Option Bool
some_wait None = None
some_wait (Some waits) = Some true

-- what is told once all bytes were flushed
abbrev pub none_waits : Option Bool → Option Bool
none_waits None = None
none_waits (Some waits) = Some false

-- what is told once so many bytes were taken
abbrev pub waits_after : ℕ → Option Bool → Option Bool
waits_after zero old = old
waits_after (suc n) old = some_wait old

-- bytes that a write takes wait, and no write flushes any
abbrev pub WaitsAfterWrite : {E : Type 0} → Option Bool → Option Bool → Result ℕ E → Type 0
WaitsAfterWrite old new (Ok count) = new ≡ waits_after count old
WaitsAfterWrite old new (Err error) = new ≡ old

-- no byte waits after a flush, unless it fails
abbrev pub WaitsAfterFlush : {T E : Type 0} → Option Bool → Option Bool → Result T E → Type 0
WaitsAfterFlush old new (Ok value) = new ≡ none_waits old
WaitsAfterFlush old new (Err error) = new ≡ old

-- no byte waits, as far as that is told
abbrev pub IsFlushed : Option Bool → Type 0
IsFlushed None = ⊤
IsFlushed (Some waits) = waits ≡ false
