-- The messages of a stream, one after another, until one ends the connection or the stream stops.
use Rattle.std.specs.Prelude.{◌≡◌, ◌≢◌, ℕ, ◌+◌, ◌-◌, ◌≤◌, ◌||◌, ◌==◌, ◌⊎◌, Bool, true, false, List, [], ◌∷◌, ◌++◌, length, Option, Result, Ok, Err, IsOk, MatchBool, ⊤}
use Rattle.std.specs.Io.KnownBytes.{IsAtEnd}
use Rattle.arr_core.specs.declared.refusal.Refusal.{Refusal}
use Rattle.arr_core.specs.declared.refusal.Refusal.TheVariants.{BadHead, NoMemory}
use Rattle.arr_core.specs.Refusals.{number_of}
use Rattle.httparse.specs.Grammar.{RequestHead, print_request, ReadsRequest}
use Rattle.stream_face.specs.Faults.{one_more_failure}
use Rattle.stream_face.specs.Views.{SourceView}
use Rattle.http_front.specs.Limits.{max_head, max_head_fields, max_messages}
use Rattle.http_front.specs.Head.{asked_by, framing, is_last, is_bare}
use Rattle.http_front.specs.declared.connection.Next.{Next}
use Rattle.http_front.specs.declared.connection.Next.TheVariants.{Message, Refused, Ended, ReadFault}

-- a head of at most 16,384 bytes and 64 fields stands at the front
pub record ReadsHead (bytes : List ℕ) (h : RequestHead) (rest : List ℕ) : Type 0 where
  pub reads : ReadsRequest bytes h rest
  pub short : length (print_request h) ≤ max_head
  pub few : length h.fields ≤ max_head_fields

-- no such head stands at the front, whatever follows
abbrev pub NeverHasHead : List ℕ → Type 0
NeverHasHead bytes = (more : List ℕ) (h : RequestHead) (rest : List ℕ) → ¬ (ReadsHead (bytes ++ more) h rest)

-- whether a head stands at the front whose reply has no body
abbrev pub IsBareAt : List ℕ → Bool → Type 0
IsBareAt bytes true = (h : RequestHead) × (rest : List ℕ) × ReadsHead bytes h rest × (is_bare h ≡ true)
IsBareAt bytes false = (h : RequestHead) (rest : List ℕ) → ReadsHead bytes h rest → is_bare h ≡ false

-- What a message asks, or the refusal that it gets; whether the connection ends with its reply; and whether that reply
-- has no body.
pub record Item : Type 0 where
  pub asked : Result (List ℕ) Refusal
  pub last : Bool
  pub bare : Bool

-- The item of the message with this number, from 0. The thousandth is the last.
abbrev pub item_of : ℕ → RequestHead → List ℕ → Item
item_of n h body = record { asked = asked_by h body; last = is_last h || (n == max_messages - 1); bare = is_bare h }

-- a refusal that ends the connection
abbrev pub refusal_item : Refusal → Bool → Item
refusal_item refusal bare = record { asked = Err refusal; last = true; bare = bare }

-- what is no message has a bad head
abbrev pub bad_head : Bool → Item
bad_head bare = refusal_item BadHead bare

-- what follows a head: a body of its length, or anything where that is refused
abbrev pub Frames : Result ℕ Refusal → ℕ → RequestHead → List ℕ → Item → List ℕ → Type 0
Frames (Ok len) n h after item rest =
    (body : List ℕ) × (length body ≡ len) × (after ≡ body ++ rest) × (item ≡ item_of n h body)
Frames (Err refusal) n h after item rest = (item ≡ refusal_item refusal (is_bare h)) × (after ≡ rest)

-- the whole message with this number at the front
pub record Whole (n : ℕ) (bytes : List ℕ) (item : Item) (rest : List ℕ) : Type 0 where
  pub head : RequestHead
  pub after : List ℕ
  pub reads : ReadsHead bytes head after
  pub framed : Frames (framing head) n head after item rest

-- no whole message stands at the front
abbrev pub HasNoMessage : List ℕ → Type 0
HasNoMessage bytes = (n : ℕ) (item : Item) (rest : List ℕ) → ¬ (Whole n bytes item rest)

-- what the end of a stream asks with no whole message before it: one refusal, unless nothing is left
abbrev pub Broken : List ℕ → List Item → Type 0
Broken bytes [] = bytes ≡ []
Broken bytes (item ∷ items) =
    HasNoMessage bytes × (bytes ≢ []) × IsBareAt bytes item.bare × (item ≡ bad_head item.bare) × (items ≡ [])

-- the messages of a stream, from this number on
abbrev pub Messages : ℕ → List ℕ → List Item → Type 0
Messages n bytes [] = Broken bytes []
Messages n bytes (item ∷ items) =
    Broken bytes (item ∷ items)
    ⊎ ((rest : List ℕ) × Whole n bytes item rest × MatchBool item.last (items ≡ []) (Messages (n + 1) rest items))

-- the first messages of a stream
abbrev pub Begins : ℕ → List ℕ → List Item → Type 0
Begins n bytes [] = ⊤
Begins n bytes (item ∷ items) =
    Broken bytes (item ∷ items)
    ⊎ ((rest : List ℕ) × Whole n bytes item rest × MatchBool item.last (items ≡ []) (Begins (n + 1) rest items))

-- The bytes begin with these messages, none of them the last, and then comes the rest.
abbrev pub Taken : ℕ → List ℕ → List Item → List ℕ → Type 0
Taken n bytes [] rest = bytes ≡ rest
Taken n bytes (item ∷ items) rest =
    (after : List ℕ) × Whole n bytes item after × (item.last ≡ false) × Taken (n + 1) after items rest

-- the answer to a whole message: its pairs, for which memory may be wanting, or its refusal
abbrev pub Shows : Result (List ℕ) Refusal → Next → Type 0
Shows asked (Message pairs) = asked ≡ Ok pairs.items
Shows asked (Refused code) =
    (refusal : Refusal) × (code ≡ number_of refusal) × ((asked ≡ Err refusal) ⊎ (IsOk asked × (refusal ≡ NoMemory)))
Shows asked Ended = ⊥
Shows asked ReadFault = ⊥

-- The item that stands at the front of the bytes that are known, where this is left of them and the source may have
-- this to give: a whole message, the refusal of what no head can come of, or that of what the end cut short.
abbrev pub Fronts : ℕ → List ℕ → List ℕ → Option (List ℕ) → Item → Type 0
Fronts n known left future item =
    Whole n known item left
    ⊎ ((item ≡ bad_head false) × (known ≢ []) × NeverHasHead known)
    ⊎ ((item ≡ bad_head item.bare) × (known ≢ []) × IsAtEnd future × HasNoMessage known × IsBareAt known item.bare)

-- what was found, and what is noted of it for the reply
abbrev pub FindsItem : ℕ → List ℕ → List ℕ → Option (List ℕ) → Next → Bool → Bool → Type 0
FindsItem n known left future next last bare =
    (item : Item) × Fronts n known left future item × Shows item.asked next × (last ≡ item.last) × (bare ≡ item.bare)

-- what a look for the next message found
abbrev pub Finds : ℕ → List ℕ → List ℕ → Option (List ℕ) → Next → Bool → Bool → Type 0
Finds n known left future Ended last bare = IsAtEnd future × (known ≡ []) × (last ≡ true)
Finds n known left future ReadFault last bare = HasNoMessage known × (last ≡ true)
Finds n known left future (Message pairs) last bare = FindsItem n known left future (Message pairs) last bare
Finds n known left future (Refused code) last bare = FindsItem n known left future (Refused code) last bare

-- a read failed in a look for the next message exactly where it says so, and only one did
abbrev pub TellsNext : SourceView → SourceView → Next → Type 0
TellsNext old new ReadFault = new.failures ≡ one_more_failure old.failures
TellsNext old new Ended = new.failures ≡ old.failures
TellsNext old new (Message pairs) = new.failures ≡ old.failures
TellsNext old new (Refused code) = new.failures ≡ old.failures
