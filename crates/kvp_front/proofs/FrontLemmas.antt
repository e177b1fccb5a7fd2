-- What stands at the front of a value's bytes.
use Rattle.std.proofs.Common.{◌≡◌, ◌≢◌, ℕ, ◌+◌, ◌-◌, ◌*◌, ◌<◌, ◌≤◌, ◌^◌, Bool, true, false, cond, List, [], ◌∷◌, ◌++◌, length, get_or, take, drop, All, Ok, pos, neg_ℤ, ◌-ℤ◌, to_z, of_z, w64, zero, suc, refl, sym, ap, ◌∙◌, subst, arith, rules, length-append, length-take, append-nil, take-append-drop, Result}
use Rattle.std.specs.Prelude.{◌==◌, codes, bytes_eq}
use Rattle.std.specs.Int.{IsInRange}
use Rattle.std.specs.Str.Lossy.{utf8_lossy}
use Rattle.std.specs.Str.Parse.{AllDigits, digits_value, starts_with_minus}
use Rattle.std.proofs.lemmas.Bool.{ne_eqb, eqb-true}
use Rattle.std.proofs.lemmas.Int.{ints, to_z_pos, to_z-of_z}
use Rattle.std.proofs.lemmas.Int.Digits.{digits_value_more}
use Rattle.std.proofs.lemmas.List.{take_more}
use Rattle.std.proofs.lemmas.List.Elements.{All-nil, All-cons, All-append, All-weaker}
use Rattle.std.proofs.lemmas.List.Splits.{slice_split_at, slice_split_none}
use Rattle.std.proofs.lemmas.Slice.Eq.{bytes_eq-Decides}
use Rattle.std.proofs.lemmas.Str.{digit_value_digit, utf8_lossy-IsUtf8, IsUtf8-from_ascii}
use Rattle.std.proofs.lemmas.Str.Ascii.{IsAscii-from_all}
use Rattle.std.proofs.lemmas.Str.Parse.{digit_from_value, digits_value_short}
use mir.Val.{bool_byte, SFits}
use Rattle.arr_core.specs.declared.cell.Cell.{Cell}
use Rattle.arr_core.specs.declared.cell.Cell.TheVariants.{Int, Bool as Truth}
use Rattle.form_urlencoded.specs.Form.{IsPlain}
use Rattle.form_urlencoded.proofs.FormLemmas.{decode_plain}
use Rattle.kvp_front.specs.declared.request.RequestError.{RequestError}
use Rattle.kvp_front.specs.Values.{and_then, text_of}
use Rattle.kvp_front.specs.Spelling.{signed_in, cell_in, digits_in, is_byte, pieces_of}
use Rattle.kvp_front.specs.Front.{WritesNumber, IsItemByte, BeginsWith}
use Rattle.kvp_front.proofs.SpellingLemmas.{own, digits_yes, Left, left_more, left_last}

digits_push : (ds : List ℕ) (c : ℕ) → AllDigits 10 ds → IsInRange 48 57 c → AllDigits 10 (ds ++ c ∷ [])
digits_push [] c all is = (omega (arith, digit_value_digit c is), tt)
digits_push (d ∷ ds) c all is = (all.0, digits_push ds c all.1 is)

-- one digit more
pub number_more : (bytes : List ℕ) (number count : ℕ) → count < length bytes → IsInRange 48 57 (get_or bytes count 0) → WritesNumber bytes number count
    → WritesNumber bytes (10 * number + (get_or bytes count 0 - 48)) (count + 1)
number_more bytes number count inside digit written = (
  omega arith,
  rw (take_more bytes count 0 inside) (digits_push (take count bytes) (get_or bytes count 0) written.1 digit),
  digits_value_more 10 bytes count inside ∙ omega (arith, written.2, digit_value_digit (get_or bytes count 0) digit),
)

-- so few digits write no large number
written_small : (bytes : List ℕ) (number count most : ℕ) → WritesNumber bytes number count → count ≤ most → number < 10 ^ most
written_small bytes number count most written few =
    let short : length (take count bytes) ≤ most = omega (arith, length-take count bytes) in
    subst (λ n. n < 10 ^ most) written.2 (digits_value_short own (take count bytes) most (own.from (take count bytes) written.1) short)

pub number_small : (bytes : List ℕ) (number count : ℕ) → WritesNumber bytes number count → count ≤ 18 → number < 10 ^ 18
number_small bytes number count written few = written_small bytes number count 18 written few

pub number_has_room : (bytes : List ℕ) (number count : ℕ) → WritesNumber bytes number count → count < 18 → number < 10 ^ 17
number_has_room bytes number count written few = written_small bytes number count 17 written (omega arith)

-- digits stand for themselves
digits_in_item : (ds : List ℕ) → AllDigits 10 ds → All IsItemByte ds
digits_in_item [] all = All-nil IsItemByte
digits_in_item (d ∷ ds) all =
    let range = digit_from_value d all.0 in
    All-cons IsItemByte d ds ((λ e. absurd (omega arith), λ e. absurd (omega arith)), omega arith, λ e. absurd (omega arith)) (digits_in_item ds all.1)

other_word : (text word : List ℕ) → text ≢ word → bytes_eq text word ≡ false
other_word text word other = by_test (bytes_eq text word) refl
  where
    by_test : (b : Bool) → bytes_eq text word ≡ b → bytes_eq text word ≡ false
    by_test true e = absurd (other ((bytes_eq-Decides text word).0 e))
    by_test false e = e

-- a text that begins with no letter is no word
no_word : (text : List ℕ) → get_or text 0 0 < 58 → cell_in text ≡ and_then (λ n. Ok (Int n)) (signed_in text)
no_word text low =
    let true_no : text ≢ codes "true" = λ e. absurd (omega (arith, ap (λ (l : List ℕ). get_or l 0 0) e)) in
    let false_no : text ≢ codes "false" = λ e. absurd (omega (arith, ap (λ (l : List ℕ). get_or l 0 0) e)) in
    rw (other_word text (codes "true") true_no, other_word text (codes "false") false_no) refl

number_in : (limit : ℕ) (ds : List ℕ) → AllDigits 10 ds → 0 < length ds → digits_value 10 ds < limit → digits_in limit ds ≡ Ok (digits_value 10 ds)
number_in limit ds all some below = digits_yes limit ds (own.from ds all, some, below)

cell_minus : (ds : List ℕ) → AllDigits 10 ds → 0 < length ds → digits_value 10 ds < 10 ^ 18 → cell_in (45 ∷ ds) ≡ Ok (Int (neg_ℤ (pos (digits_value 10 ds))))
cell_minus ds all some small =
    let within : digits_value 10 ds < 2 ^ 63 + 1 = omega arith in
    no_word (45 ∷ ds) (omega arith) ∙ rw (number_in (2 ^ 63 + 1) ds all some within) refl

cell_digits : (ds : List ℕ) → AllDigits 10 ds → 0 < length ds → digits_value 10 ds < 10 ^ 18 → cell_in ds ≡ Ok (Int (pos (digits_value 10 ds)))
cell_digits [] all some small = absurd (omega arith)
cell_digits (c ∷ cs) all some small =
    let range = digit_from_value c all.0 in
    let within : digits_value 10 (c ∷ cs) < 2 ^ 63 = omega arith in
    let no_minus : (c == 45) ≡ false = ne_eqb c 45 (λ e. absurd (omega arith)) in
    let no_plus : (c == 43) ≡ false = ne_eqb c 43 (λ e. absurd (omega arith)) in
    no_word (c ∷ cs) (omega arith) ∙ rw (no_minus, no_plus, number_in (2 ^ 63) (c ∷ cs) all some within) refl

-- a number of 18 digits and its opposite fit 64 bits
pub positive : (n : ℕ) → n < 10 ^ 18 → to_z w64 n ≡ pos n
positive n small = to_z_pos w64 n (omega arith)

nothing_less : (n : ℕ) → pos 0 -ℤ pos n ≡ neg_ℤ (pos n)
nothing_less zero = refl
nothing_less (suc n) = omega (arith, ints)

negative_fits : (n : ℕ) → n < 10 ^ 18 → SFits w64 (pos 0 -ℤ pos n)
negative_fits n small = omega (arith, ints)

pub negated : (n : ℕ) → n < 10 ^ 18 → to_z w64 (of_z w64 (pos 0 -ℤ to_z w64 n)) ≡ neg_ℤ (pos n)
negated n small = rw (positive n small) (to_z-of_z w64 (pos 0 -ℤ pos n) (negative_fits n small) ∙ nothing_less n)

-- a sign, if there is one, and the digits behind it are a cell
pub number_begins : (bytes : List ℕ) (negative : Bool) (number count : ℕ) → negative ≡ starts_with_minus bytes
    → WritesNumber (drop (bool_byte negative) bytes) number count → 0 < count → number < 10 ^ 18
    → BeginsWith bytes (Int (cond negative (neg_ℤ (pos number)) (pos number))) (drop count (drop (bool_byte negative) bytes))
number_begins bytes false number count sign written some small =
    let ds = take count bytes in
    let long : 0 < length ds = omega (arith, length-take count bytes) in
    (ds, sym (take-append-drop count bytes), cell_digits ds written.1 long (omega arith) ∙ ap (λ n. Ok (Int (pos n))) written.2, digits_in_item ds written.1)
number_begins [] true number count sign written some small = absurd cc
number_begins (c ∷ cs) true number count sign written some small =
    let minus : c ≡ 45 = eqb-true c 45 (sym sign) in
    let ds = take count cs in
    let long : 0 < length ds = omega (arith, length-take count cs) in (
      45 ∷ ds,
      ap (λ d. d ∷ cs) minus ∙ ap (λ l. 45 ∷ l) (sym (take-append-drop count cs)),
      cell_minus ds written.1 long (omega arith) ∙ ap (λ n. Ok (Int (neg_ℤ (pos n)))) written.2,
      All-cons IsItemByte 45 ds ((λ e. absurd (omega arith), λ e. absurd (omega arith)), omega arith, λ e. absurd (omega arith)) (digits_in_item ds written.1),
    )

-- small letters stand for themselves
abbrev AreLetters : List ℕ → Type 0
AreLetters [] = Unit {0}
AreLetters (c ∷ cs) = (97 ≤ c) × (c ≤ 122) × AreLetters cs

letters_in_item : (cs : List ℕ) → AreLetters cs → All IsItemByte cs
letters_in_item [] all = All-nil IsItemByte
letters_in_item (c ∷ cs) all =
    All-cons IsItemByte c cs ((λ e. absurd (omega arith), λ e. absurd (omega arith)), omega arith, λ e. absurd (omega arith)) (letters_in_item cs all.2)

-- a prefix and what is left without it
pub front_is : (word bytes after : List ℕ) (n : ℕ) → bytes_eq (take n bytes) word ≡ true → after ≡ drop n bytes → bytes ≡ word ++ after
front_is word bytes after n same rest =
    let front : take n bytes ≡ word = (bytes_eq-Decides (take n bytes) word).0 same in
    sym (take-append-drop n bytes) ∙ ap (λ l. l ++ drop n bytes) front ∙ ap (λ l. word ++ l) (sym rest)

pub true_begins : (bytes after : List ℕ) → bytes ≡ codes "true" ++ after → BeginsWith bytes (Truth true) after
true_begins bytes after is = (codes "true", is, refl, letters_in_item (codes "true") (search rules))

pub false_begins : (bytes after : List ℕ) → bytes ≡ codes "false" ++ after → BeginsWith bytes (Truth false) after
false_begins bytes after is = (codes "false", is, refl, letters_in_item (codes "false") (search rules))

-- a byte that is itself in an encoded value
abbrev pub IsItself : ℕ → Type 0
IsItself b = IsPlain b × (b < 128)

pub text_is_itself : (bytes : List ℕ) → All IsItself bytes → text_of bytes ≡ bytes
text_is_itself bytes all =
    let plain : All IsPlain bytes = All-weaker IsItself IsPlain (λ b h. h.0) bytes all in
    let ascii : All (λ b. b < 128) bytes = All-weaker IsItself (λ b. b < 128) (λ b h. h.1) bytes all in
    ap utf8_lossy (decode_plain bytes plain) ∙ utf8_lossy-IsUtf8 bytes (IsUtf8-from_ascii bytes (IsAscii-from_all bytes ascii))

no_comma : (text : List ℕ) → All IsItemByte text → All (λ b. is_byte 44 b ≡ false) text
no_comma text all = All-weaker IsItemByte (λ b. is_byte 44 b ≡ false) (λ b h. ne_eqb b 44 h.2) text all

itself : (text : List ℕ) → All IsItemByte text → All IsItself text
itself text all = All-weaker IsItemByte IsItself (λ b h. (h.0, h.1)) text all

-- no more is left than was there, and less where a cell was read
pub shorter : (bytes after : List ℕ) (cell : Cell) → BeginsWith bytes cell after → length after < length bytes
shorter bytes after cell ([], parts, reads, all) = absurd cc
shorter bytes after cell (b ∷ bs, parts, reads, all) = omega (arith, ap length parts, length-append bs after)

module _ (whole : Result (List Cell) RequestError) where
  -- the last cell
  pub list_ends : (done : List Cell) (rest after : List ℕ) (cell : Cell) → length after ≡ 0 → BeginsWith rest cell after → Left cell_in whole done rest
      → whole ≡ Ok (done ++ cell ∷ [])
  list_ends done rest [] cell none (text, parts, reads, all) left =
      let is : rest ≡ text = parts ∙ append-nil text in
      let alone : pieces_of rest ≡ rest ∷ [] = subst (λ l. pieces_of l ≡ l ∷ []) (sym is) (slice_split_none (is_byte 44) text (no_comma text all)) in
      left_last cell_in whole done rest cell alone (ap cell_in is ∙ reads) left
  list_ends done rest (b ∷ bs) cell none begins left = absurd (omega arith)

  -- a cell and the comma behind it
  pub list_goes_on : (done : List Cell) (rest more : List ℕ) (cell : Cell) → BeginsWith rest cell (44 ∷ more) → Left cell_in whole done rest
      → Left cell_in whole (done ++ cell ∷ []) more
  list_goes_on done rest more cell (text, parts, reads, all) left =
      let cut : pieces_of rest ≡ text ∷ pieces_of more = ap pieces_of parts ∙ slice_split_at (is_byte 44) text 44 more (no_comma text all) refl in
      left_more cell_in whole done rest text more cell cut reads left

pub ends_as_itself : (rest after : List ℕ) (cell : Cell) → length after ≡ 0 → BeginsWith rest cell after → All IsItself rest
ends_as_itself rest [] cell none (text, parts, reads, all) = subst (All IsItself) (sym (parts ∙ append-nil text)) (itself text all)
ends_as_itself rest (b ∷ bs) cell none begins = absurd (omega arith)

pub goes_on_as_itself : (rest more : List ℕ) (cell : Cell) → BeginsWith rest cell (44 ∷ more) → All IsItself more → All IsItself rest
goes_on_as_itself rest more cell (text, parts, reads, all) later =
    let comma : IsItself 44 = ((λ e. absurd (omega arith), λ e. absurd (omega arith)), omega arith) in
    subst (All IsItself) (sym parts) (All-append IsItself text (44 ∷ more) (itself text all) (All-cons IsItself 44 more comma later))
