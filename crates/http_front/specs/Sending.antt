-- A reply on its way out, of which a last part may still be held back.
use Rattle.std.specs.Prelude.{◌≡◌, ℕ, Bool, true, false, List, ◌++◌, Result, Ok, Err}
use Rattle.std.specs.Io.KnownBytes.{Appends}
use Rattle.stream_face.specs.Faults.{AppendsPrefix, Sent, one_more_failure}
use Rattle.stream_face.specs.Views.{SinkView}

-- All of the text but what is pending went out, and no call failed; or a first part of the text did, and exactly one
-- call failed.
abbrev pub IsUnderWay : SinkView → SinkView → Bool → List ℕ → List ℕ → Type 0
IsUnderWay old new true text pending =
    (sent : List ℕ) × Appends old.contents new.contents sent × (text ≡ sent ++ pending) × (new.failures ≡ old.failures)
IsUnderWay old new false text pending =
    AppendsPrefix old.contents new.contents text × (new.failures ≡ one_more_failure old.failures)

-- a text that was under way since any moment still is, with more bytes, and with what is pending then
abbrev pub SendsMore : SinkView → SinkView → Bool → Bool → List ℕ → List ℕ → List ℕ → Type 0
SendsMore old new before now bytes pending later =
    (first : SinkView) (text : List ℕ) → IsUnderWay first old before text pending
    → IsUnderWay first new now (text ++ bytes) later

-- a text that was under way since any moment has gone out, with what was pending
abbrev pub Finishes : SinkView → SinkView → Bool → Bool → List ℕ → Type 0
Finishes old new before now pending =
    (first : SinkView) (text : List ℕ) → IsUnderWay first old before text pending → Sent first new now text

-- Ok where all of the text went out, and no call failed; else a first part did, and exactly one call failed.
abbrev pub Sends : {E T : Type 0} → SinkView → SinkView → Result T E → List ℕ → Type 0
Sends old new (Ok done) text = Sent old new true text
Sends old new (Err error) text = Sent old new false text
