-- How numbers and lists are spelled.
use Rattle.std.proofs.Common.{◌≡◌, ◌≢◌, ℕ, ◌+◌, ◌<◌, ◌≤◌, ◌^◌, Bool, true, false, List, [], ◌∷◌, ◌++◌, length, get_or, Result, Ok, Err, MatchResult, ℤ, pos, neg_ℤ, refl, sym, ap, ◌∙◌, subst, arith, append_assoc, inl, inr}
use Rattle.std.specs.Prelude.{MatchOption, ◌⊎◌, ◌==◌, nat_lt, Option, Some}
use Rattle.std.specs.Borrow.{Bor}
use Rattle.std.specs.List.{position_or_len, before_first, after_first}
use Rattle.std.specs.Result.{OkIff}
use Rattle.std.specs.Str.{all_ascii_digits}
use Rattle.std.specs.Str.Parse.{digits_value, ParsesSigned, ParsesUnsigned}
use Rattle.std.proofs.lemmas.Str.Parse.{IsNumeralModel, numerals_by_value, tells_all_ascii_digits, parse_signed_minus, parse_signed_plus, parse_signed_plain, parse_plain}
use Rattle.std.proofs.lemmas.List.Splits.{slice_split_first}
use Rattle.std.proofs.lemmas.Bool.Decides.{nat_tests}
use borrow.Author.Tests.{ltb-true}
use mir.Syntax.{w64}
use mir.Val.{SFits}
use Rattle.kvp_front.specs.declared.request.RequestError.{RequestError}
use Rattle.kvp_front.specs.declared.request.RequestError.TheVariants.{BadValue, NoMemory}
use Rattle.kvp_front.specs.Values.{and_then}
use Rattle.kvp_front.specs.Jobs.{job_in}
use Rattle.kvp_front.specs.Spelling.{digits_in, signed_in, is_byte, pieces_of, each_in}

pub own : IsNumeralModel (λ ds. all_ascii_digits ds ≡ true) (digits_value 10)
own = numerals_by_value _ tells_all_ascii_digits

-- the digits of a number below the limit
abbrev pub AreDigits : ℕ → List ℕ → Type 0
AreDigits limit ds = (all_ascii_digits ds ≡ true) × (0 < length ds) × (digits_value 10 ds < limit)

lt_true : (a b : ℕ) → a < b → nat_lt a b ≡ true
lt_true a b h = grind (arith, nat_tests)

pub digits_yes : (limit : ℕ) (ds : List ℕ) → AreDigits limit ds → digits_in limit ds ≡ Ok (digits_value 10 ds)
digits_yes limit ds d = rw (lt_true 0 (length ds) d.1, d.0, lt_true (digits_value 10 ds) limit d.2) refl

digits_no : (limit : ℕ) (ds : List ℕ) → ¬ (AreDigits limit ds) → digits_in limit ds ≡ Err BadValue
digits_no limit ds none = by_tests (nat_lt 0 (length ds)) (all_ascii_digits ds) (nat_lt (digits_value 10 ds) limit) refl refl refl
  where
    by_tests : (some digits below : Bool) → nat_lt 0 (length ds) ≡ some → all_ascii_digits ds ≡ digits → nat_lt (digits_value 10 ds) limit ≡ below → digits_in limit ds ≡ Err BadValue
    by_tests true true true a b c = absurd (none (b, ltb-true 0 (length ds) a, ltb-true (digits_value 10 ds) limit c))
    by_tests false digits below a b c = rw a refl
    by_tests true false below a b c = rw (a, b) refl
    by_tests true true false a b c = rw (a, b, c) refl

-- what `parse` answers is what is spelled
abbrev pub Signed : {E : Type 0} → List ℕ → Result ℤ E → Type 0
Signed text r = MatchResult r (λ n. signed_in text ≡ Ok n) (λ e. signed_in text ≡ Err BadValue)

after_minus : {E : Type 0} (cs : List ℕ) (r : Result ℤ E) → OkIff r ((all_ascii_digits cs ≡ true) × (0 < length cs) × (digits_value 10 cs ≤ 2 ^ 63)) (neg_ℤ (pos (digits_value 10 cs)))
    → MatchResult r (λ n. and_then (λ n. Ok (neg_ℤ (pos n))) (digits_in (2 ^ 63 + 1) cs) ≡ Ok n) (λ e. and_then (λ n. Ok (neg_ℤ (pos n))) (digits_in (2 ^ 63 + 1) cs) ≡ Err BadValue)
after_minus cs (Ok n) x = rw (digits_yes (2 ^ 63 + 1) cs (x.0.0, x.0.1, omega (arith, x.0.2)), x.1) refl
after_minus cs (Err e) x = rw (digits_no (2 ^ 63 + 1) cs (λ d. x (d.0, d.1, omega (arith, d.2)))) refl

after_plus : {E : Type 0} (cs : List ℕ) (r : Result ℤ E) → OkIff r ((all_ascii_digits cs ≡ true) × (0 < length cs) × (digits_value 10 cs < 2 ^ 63)) (pos (digits_value 10 cs))
    → MatchResult r (λ n. and_then (λ n. Ok (pos n)) (digits_in (2 ^ 63) cs) ≡ Ok n) (λ e. and_then (λ n. Ok (pos n)) (digits_in (2 ^ 63) cs) ≡ Err BadValue)
after_plus cs (Ok n) x = rw (digits_yes (2 ^ 63) cs x.0, x.1) refl
after_plus cs (Err e) x = rw (digits_no (2 ^ 63) cs x) refl

signed_cons : {E : Type 0} (c : ℕ) (cs : List ℕ) (r : Result ℤ E) → ParsesSigned w64 10 (c ∷ cs) r → (minus plus : Bool) → (c == 45) ≡ minus → (c == 43) ≡ plus
    → Signed (c ∷ cs) r
signed_cons c cs r h true plus e f =
    let at : get_or (c ∷ cs) 0 0 ≡ 45 = grind (arith, nat_tests) in
    rw e (after_minus cs r (parse_signed_minus own w64 (c ∷ cs) r h at))
signed_cons c cs r h false true e f =
    let at : get_or (c ∷ cs) 0 0 ≡ 43 = grind (arith, nat_tests) in
    rw (e, f) (after_plus cs r (parse_signed_plus own w64 (c ∷ cs) r h at))
signed_cons c cs r h false false e f =
    let no_plus : get_or (c ∷ cs) 0 0 ≢ 43 = grind (arith, nat_tests) in
    let no_minus : get_or (c ∷ cs) 0 0 ≢ 45 = grind (arith, nat_tests) in
    rw (e, f) (after_plus (c ∷ cs) r (parse_signed_plain own w64 (c ∷ cs) r h no_plus no_minus))

nothing_is_no_number : {E : Type 0} (r : Result ℤ E) → ParsesSigned w64 10 [] r → Signed [] r
nothing_is_no_number (Ok n) x = absurd (omega (arith, x.0.0.0))
nothing_is_no_number (Err e) x = refl

pub signed_parsed : {E : Type 0} (text : List ℕ) (r : Result ℤ E) → ParsesSigned w64 10 text r → Signed text r
signed_parsed [] r h = nothing_is_no_number r h
signed_parsed (c ∷ cs) r h = signed_cons c cs r h (c == 45) (c == 43) refl refl

pub fits_if_parsed : {E : Type 0} (text : List ℕ) (r : Result ℤ E) (n : ℤ) → r ≡ Ok n → ParsesSigned w64 10 text r → SFits w64 n
fits_if_parsed text (Ok m) n e x =
    let is : m ≡ n = cc in subst (SFits w64) (sym x.1 ∙ is) x.0.1
fits_if_parsed text (Err f) n e x = absurd cc

-- what `parse` answers of digits alone is the number of a job that is spelled
abbrev pub Job : {E : Type 0} → List ℕ → Result ℕ E → Type 0
Job text r = MatchResult r (λ n. job_in text ≡ Ok n) (λ e. job_in text ≡ Err BadValue)

job_if_digits : {E : Type 0} (text : List ℕ) (r : Result ℕ E) → OkIff r ((all_ascii_digits text ≡ true) × (0 < length text) × (digits_value 10 text < 2 ^ 64)) (digits_value 10 text)
    → Job text r
job_if_digits text (Ok n) x = rw (digits_yes (2 ^ 64) text x.0, x.1) refl
job_if_digits text (Err e) x = rw (digits_no (2 ^ 64) text x) refl

pub job_parsed : {E : Type 0} (text : List ℕ) (r : Result ℕ E) → ParsesUnsigned 64 10 text r → get_or text 0 0 ≢ 43 → Job text r
job_parsed text r h plain = job_if_digits text r (parse_plain own 64 text r h plain)

-- a text with a comma is cut there, and one without is one piece
pub pieces_cut : (text : List ℕ) → position_or_len (is_byte 44) text < length text
    → pieces_of text ≡ before_first (is_byte 44) text ∷ pieces_of (after_first (is_byte 44) text)
pieces_cut text h = slice_split_first (is_byte 44) text 0 h

onto_whole : (c : ℕ) (cs : List ℕ) (b : Bool) → (c == 44) ≡ b → position_or_len (is_byte 44) (c ∷ cs) ≡ length (c ∷ cs)
    → (position_or_len (is_byte 44) cs ≡ length cs → pieces_of cs ≡ cs ∷ []) → pieces_of (c ∷ cs) ≡ (c ∷ cs) ∷ []
onto_whole c cs true e h rest =
    let none : position_or_len (is_byte 44) (c ∷ cs) ≡ 0 = rw e refl in absurd (omega (arith, none, h))
onto_whole c cs false e h rest =
    let more : position_or_len (is_byte 44) (c ∷ cs) ≡ position_or_len (is_byte 44) cs + 1 = rw e (omega arith) in
    let left : position_or_len (is_byte 44) cs ≡ length cs = omega (arith, more, h) in
    let pieces = rest left in
    rw (e, pieces) refl

pub pieces_whole : (text : List ℕ) → position_or_len (is_byte 44) text ≡ length text → pieces_of text ≡ text ∷ []
pieces_whole [] h = refl
pieces_whole (c ∷ cs) h = onto_whole c cs (c == 44) refl h (pieces_whole cs)

module _ {X : Type 0} (read : List ℕ → Result X RequestError) (whole : Result (List X) RequestError) where
  -- what is expected, where these were read and this text is left
  abbrev pub Left : List X → List ℕ → Type 0
  Left done rest = whole ≡ and_then (λ more. Ok (done ++ more)) (each_in read (pieces_of rest))

  and_then_all : (done : List X) (x : X) (r : Result (List X) RequestError)
      → and_then (λ more. Ok (done ++ more)) (and_then (λ xs. Ok (x ∷ xs)) r) ≡ and_then (λ more. Ok ((done ++ x ∷ []) ++ more)) r
  and_then_all done x (Ok xs) = ap (λ l. Ok l) (sym (append_assoc done (x ∷ []) xs))
  and_then_all done x (Err e) = refl

  pub left_more : (done : List X) (rest piece after : List ℕ) (x : X) → pieces_of rest ≡ piece ∷ pieces_of after → read piece ≡ Ok x
      → Left done rest → Left (done ++ x ∷ []) after
  left_more done rest piece after x cut is left =
      left ∙ (rw (cut, is) (and_then_all done x (each_in read (pieces_of after))))

  pub left_refused : (done : List X) (rest piece : List ℕ) (pieces : List (List ℕ)) (e : RequestError) → pieces_of rest ≡ piece ∷ pieces → read piece ≡ Err e
      → Left done rest → whole ≡ Err e
  left_refused done rest piece pieces e cut is left = left ∙ (rw (cut, is) refl)

  pub left_last : (done : List X) (rest : List ℕ) (x : X) → pieces_of rest ≡ rest ∷ [] → read rest ≡ Ok x → Left done rest
      → whole ≡ Ok (done ++ x ∷ [])
  left_last done rest x cut is left = left ∙ (rw (cut, is) refl)

-- what `split_once` at a comma says of the pieces
abbrev pub CutAtComma : List ℕ → Option (Bor (List ℕ) × Bor (List ℕ)) → Type 0
CutAtComma text r =
    MatchOption r (position_or_len (is_byte 44) text ≡ length text)
    (λ x. (x.0.now ≡ before_first (is_byte 44) text) × (x.1.now ≡ after_first (is_byte 44) text) × (position_or_len (is_byte 44) text < length text))

pub cut_of : (text : List ℕ) (front back : Bor (List ℕ)) → CutAtComma text (Some (front, back)) → pieces_of text ≡ front.now ∷ pieces_of back.now
cut_of text front back x =
    pieces_cut text x.2 ∙ ap (λ l. l ∷ pieces_of (after_first (is_byte 44) text)) (sym x.0) ∙ ap (λ l. front.now ∷ pieces_of l) (sym x.1)

-- the refusal of a part is that of the whole, unless memory ran out
pub refused_or_out : {X Y : Type 0} (part : Result X RequestError) (whole : Result Y RequestError) (e : RequestError)
    → (part ≡ Err e → whole ≡ Err e) → (part ≡ Err e) ⊎ (e ≡ NoMemory) → (whole ≡ Err e) ⊎ (e ≡ NoMemory)
refused_or_out part whole e f (inl refused) = inl (f refused)
refused_or_out part whole e f (inr out) = inr out
