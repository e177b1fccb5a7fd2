-- Bytes that come in. What a source has still to give is known only where it tells that.
use Rattle.std.specs.Prelude.{◌≡◌, ℕ, Bool, ◌<◌, ◌≤◌, ◌==◌, List, [], ◌++◌, length, Option, Some, None, IfSome, Vec}
use Rattle.std.specs.declared.alloc.Global.{Global}
use Rattle.std.specs.Io.KnownBytes.{Consumes, IsAtEnd}
use Rattle.std.specs.List.{list_any}
use Rattle.stream_face.specs.Faults.{one_more_failure}
use Rattle.stream_face.specs.Views.{SourceView}
use Rattle.http_front.specs.declared.buffer.Filled.{Filled}
use Rattle.http_front.specs.declared.buffer.Filled.TheVariants.{More, End, Fault}
use Rattle.http_front.specs.declared.body.Body.{Body}
use Rattle.http_front.specs.declared.body.Body.TheVariants.{Kept, Dropped, Short, Cut}

-- a line may end in these bytes
abbrev pub has_line_end : List ℕ → Bool
has_line_end bytes = list_any (λ b. b == 10) bytes

-- a read failed exactly where it says so, and only one did
abbrev pub TellsFilled : SourceView → SourceView → Filled → Type 0
TellsFilled old new More = new.failures ≡ old.failures
TellsFilled old new End = new.failures ≡ old.failures
TellsFilled old new Fault = new.failures ≡ one_more_failure old.failures

-- what one read of at most so many bytes did: some came and stand behind those that were held; at the end and at a
-- fault none did
abbrev pub Fills : SourceView → SourceView → List ℕ → List ℕ → ℕ → Filled → Type 0
Fills before after held now most More =
    (came : List ℕ) × (0 < length came) × Consumes before.remaining after.remaining came × (now ≡ held ++ came)
    × (length came ≤ most)
Fills before after held now most End =
    Consumes before.remaining after.remaining [] × IsAtEnd after.remaining × (now ≡ held)
Fills before after held now most Fault = Consumes before.remaining after.remaining [] × (now ≡ held)

-- something is held, after a read of at most so many bytes if need be; or nothing was and nothing came
abbrev pub Refills : SourceView → SourceView → List ℕ → List ℕ → ℕ → Filled → Type 0
Refills before after held now most More =
    (came : List ℕ) × Consumes before.remaining after.remaining came × (now ≡ held ++ came) × (0 < length now)
    × (length came ≤ most)
Refills before after held now most End =
    Consumes before.remaining after.remaining [] × IsAtEnd after.remaining × (now ≡ held) × (length held ≡ 0)
Refills before after held now most Fault =
    Consumes before.remaining after.remaining [] × (now ≡ held) × (length held ≡ 0)

-- the kept bytes and these, if any are kept
abbrev pub Extends : Option (Vec ℕ Global) → Option (Vec ℕ Global) → List ℕ → Type 0
Extends None new bytes = new ≡ None
Extends (Some old) new bytes = IfSome new (λ v. v.items ≡ old.items ++ bytes)

-- The bytes held and those that came begin with a body of this length, which was kept or dropped, or they are too few.
-- No more came than the body has.
abbrev pub TakesBody : SourceView → SourceView → List ℕ → List ℕ → ℕ → Body → Type 0
TakesBody before after held now len (Kept body) =
    (came : List ℕ) × Consumes before.remaining after.remaining came × (held ++ came ≡ body.items ++ now)
    × (length body.items ≡ len)
    × (length came ≤ len)
TakesBody before after held now len Dropped =
    (came : List ℕ) × Consumes before.remaining after.remaining came × (body : List ℕ) × (held ++ came ≡ body ++ now)
    × (length body ≡ len)
    × (length came ≤ len)
TakesBody before after held now len Short =
    (came : List ℕ) × Consumes before.remaining after.remaining came × IsAtEnd after.remaining
    × (length (held ++ came) < len)
TakesBody before after held now len Cut =
    (came : List ℕ) × Consumes before.remaining after.remaining came × (length (held ++ came) < len)

-- a read of a body failed exactly where it says so, and only one did
abbrev pub TellsBody : SourceView → SourceView → Body → Type 0
TellsBody old new (Kept body) = new.failures ≡ old.failures
TellsBody old new Dropped = new.failures ≡ old.failures
TellsBody old new Short = new.failures ≡ old.failures
TellsBody old new Cut = new.failures ≡ one_more_failure old.failures
