-- The pairs of a web form, the values under a key, and what a reader of values answers.
use Rattle.std.specs.Prelude.{◌≡◌, ℕ, ◌⊎◌, List, [], ◌∷◌, map, Result, Ok, Err, if◌then◌else◌, string_bytes}
use Rattle.std.specs.Str.Lossy.{utf8_lossy}
use Rattle.std.specs.Str.{str_eq_ignore_ascii_case}
use Rattle.form_urlencoded.specs.Form as form
use Rattle.kvp_front.specs.declared.pairs.Pair.{Pair}
use Rattle.kvp_front.specs.declared.pairs.Found.{Found}
use Rattle.kvp_front.specs.declared.pairs.Found.TheVariants.{Absent, Once, Twice}
use Rattle.kvp_front.specs.declared.request.RequestError.{RequestError}
use Rattle.kvp_front.specs.declared.request.RequestError.TheVariants.{MissingKey, RepeatedKey, NoMemory}

-- the text that an encoded name or value stands for
abbrev pub text_of : List ℕ → List ℕ
text_of bytes = utf8_lossy (form.decode bytes)

-- a pair with its name decoded, and its value as it is encoded
abbrev pub named : List ℕ × List ℕ → List ℕ × List ℕ
named pair = (text_of pair.0, pair.1)

-- the pairs that some bytes spell, in order
abbrev pub pairs_of : List ℕ → List (List ℕ × List ℕ)
pairs_of bytes = map named (form.raw_pairs bytes)

-- a pair as what it stands for
abbrev pub pair_view : Pair → List ℕ × List ℕ
pair_view pair = (string_bytes pair.name, pair.value.now)

-- the decoded values under a key in any ASCII case, in order
abbrev pub values_of : List ℕ → List (List ℕ × List ℕ) → List (List ℕ)
values_of key [] = []
values_of key (pair ∷ pairs) =
    if str_eq_ignore_ascii_case pair.0 key then text_of pair.1 ∷ values_of key pairs else values_of key pairs

-- what was found is these values, as far as it tells
abbrev pub IsFound : Found → List (List ℕ) → Type 0
IsFound Absent values = values ≡ []
IsFound (Once value) values = values ≡ text_of value.now ∷ []
IsFound Twice values = (first : List ℕ) × (second : List ℕ) × (more : List (List ℕ)) × (values ≡ first ∷ second ∷ more)

-- the value of a key that is given once
abbrev pub only_value : List (List ℕ) → Result (List ℕ) RequestError
only_value [] = Err MissingKey
only_value (value ∷ []) = Ok value
only_value (value ∷ second ∷ more) = Err RepeatedKey

-- the second step on what the first one gives, or the refusal of the first
abbrev pub and_then : {A B : Type 0} → (A → Result B RequestError) → Result A RequestError → Result B RequestError
and_then f (Ok a) = f a
and_then f (Err e) = Err e

-- the one value of a key, read
abbrev pub read_under : {X : Type 0} → (List ℕ → Result X RequestError) → List ℕ → List (List ℕ × List ℕ)
    → Result X RequestError
read_under read key pairs = and_then read (only_value (values_of key pairs))

-- The answer stands for what is expected, a value or a refusal; in its place want of memory may be told.
abbrev pub Gives : {T X : Type 0} → (T → X) → Result X RequestError → Result T RequestError → Type 0
Gives view expected (Ok value) = expected ≡ Ok (view value)
Gives view expected (Err e) = (expected ≡ Err e) ⊎ (e ≡ NoMemory)
