-- A connection as its caller sees it, and what a look for its next message does.
use Rattle.std.specs.Prelude.{◌≡◌, ◌≢◌, ℕ, ◌+◌, ◌≤◌, Bool, List, [], ◌++◌, length, Option}
use Rattle.std.specs.Io.KnownBytes.{Consumes, IsAtEnd}
use Rattle.httparse.specs.Grammar.{HasNoRequest}
use Rattle.stream_face.specs.Faults.{one_more_failure}
use Rattle.stream_face.specs.Views.{SourceView}
use Rattle.http_front.specs.Limits.{max_head, max_body}
use Rattle.http_front.specs.Head.{IsHeadAt}
use Rattle.http_front.specs.Stream.{NeverHasHead, Finds}
use Rattle.http_front.specs.declared.ahead.Ahead.{Ahead}
use Rattle.http_front.specs.declared.ahead.Ahead.TheVariants.{Whole, Bad, Nothing, Cut, Fault}
use Rattle.http_front.specs.declared.connection.Next.{Next}
use Rattle.http_front.specs.declared.message.Taken.{Taken}

-- The bytes that came and are not used; whether nothing comes after the last reply; whether the next reply has no body;
-- and how many messages have come.
pub record ConnectionView : Type 0 where
  pub buffer : List ℕ
  pub over : Bool
  pub bare : Bool
  pub count : ℕ

-- what stands at the front of the bytes that are known, where the source may have this to give
abbrev pub IsAhead : List ℕ → Option (List ℕ) → Ahead → Type 0
IsAhead known future (Whole head) = IsHeadAt known head
IsAhead known future Bad = (known ≢ []) × NeverHasHead known
IsAhead known future Nothing = (known ≡ []) × IsAtEnd future
IsAhead known future Cut = (known ≢ []) × IsAtEnd future × HasNoRequest known
IsAhead known future Fault = HasNoRequest known

-- the bytes that were held and those that came, no more than a head may have, and what stands at their front
abbrev pub LooksAhead : SourceView → SourceView → List ℕ → List ℕ → Ahead → Type 0
LooksAhead before after held now ahead =
    (came : List ℕ) × Consumes before.remaining after.remaining came × (now ≡ held ++ came) × (length now ≤ max_head)
    × IsAhead now after.remaining ahead

-- a read failed in a look ahead exactly where it says so, and only one did
abbrev pub TellsAhead : SourceView → SourceView → Ahead → Type 0
TellsAhead old new (Whole head) = new.failures ≡ old.failures
TellsAhead old new Bad = new.failures ≡ old.failures
TellsAhead old new Nothing = new.failures ≡ old.failures
TellsAhead old new Cut = new.failures ≡ old.failures
TellsAhead old new Fault = new.failures ≡ one_more_failure old.failures

-- What was found of the message with this number in the bytes that were held and those that came, and what is noted of
-- it for its reply. These bytes are no more than a head and a body may have, 16,384 bytes and 1,048,576.
abbrev pub Takes : SourceView → SourceView → ℕ → List ℕ → List ℕ → Taken → Bool → Type 0
Takes before after n held now taken bare =
    (came : List ℕ) × Consumes before.remaining after.remaining came
    × Finds n (held ++ came) now after.remaining taken.next taken.over bare
    × (length (held ++ came) ≤ max_head + max_body)

-- what a look for the next message does to a connection
abbrev pub TakesNext : SourceView → SourceView → ConnectionView → ConnectionView → Next → Type 0
TakesNext before after old new next =
    Takes before after old.count old.buffer new.buffer (record { next = next; over = new.over }) new.bare
