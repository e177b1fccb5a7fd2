-- How bytes are cut at marks, and the pairs between them.
use Rattle.std.proofs.Common.{◌≡◌, ℕ, ◌+◌, ◌<◌, ◌≤◌, Bool, true, false, List, [], ◌∷◌, ◌++◌, length, get_or, take, drop, map, sym, refl, ap, ◌∙◌, subst, arith, append_assoc, append-nil}
use Rattle.std.specs.Prelude.{◌==◌}
use Rattle.std.specs.List.{position_or_len}
use Rattle.std.proofs.lemmas.List.{take_all}
use Rattle.std.proofs.lemmas.List.Sums.{position_or_len_is}
use Rattle.std.proofs.Math.ListN.{drop_of_length-le}
use Rattle.form_urlencoded.specs.Form as form
use Rattle.form_urlencoded.proofs.FormLemmas.{raw_pairs-nil, raw_pairs_skip, raw_pairs_first}
use Rattle.kvp_front.specs.Values.{named, pairs_of, text_of}

not_true : (b : Bool) → (b ≡ true → ⊥) → b ≡ false
not_true true none = absurd (none refl)
not_true false none = refl

abbrev IsMark : ℕ → List ℕ → ℕ → Type 0
IsMark mark bytes k = (get_or bytes k 0 == mark) ≡ true

pub cut_at_first : (mark : ℕ) (bytes : List ℕ) (place : ℕ) → place < length bytes → ((k : ℕ) → 0 ≤ k → k < place → IsMark mark bytes k → ⊥) → IsMark mark bytes place
    → (take place bytes, drop (place + 1) bytes) ≡ form.split_once mark bytes
cut_at_first mark bytes place within none here =
    let cut : ℕ → List ℕ × List ℕ = λ n. (take n bytes, drop (n + 1) bytes) in
    let is : position_or_len (λ b. b == mark) bytes ≡ place = position_or_len_is (λ b. b == mark) bytes place 0 (omega arith) (λ k h. not_true (get_or bytes k 0 == mark) (none k (omega arith) h)) (λ _. here) in
    ap cut (sym is)

pub no_cut : (mark : ℕ) (bytes : List ℕ) → ((k : ℕ) → 0 ≤ k → k < length bytes → IsMark mark bytes k → ⊥) → (bytes, []) ≡ form.split_once mark bytes
no_cut mark bytes none =
    let cut : ℕ → List ℕ × List ℕ = λ n. (take n bytes, drop (n + 1) bytes) in
    let is : position_or_len (λ b. b == mark) bytes ≡ length bytes = position_or_len_is (λ b. b == mark) bytes (length bytes) 0 (omega arith) (λ k h. not_true (get_or bytes k 0 == mark) (none k (omega arith) h)) (λ h. absurd (omega arith)) in
    let front : take (length bytes) bytes ≡ bytes = take_all (length bytes) bytes (omega arith) in
    let back : drop (length bytes + 1) bytes ≡ [] = drop_of_length-le bytes (omega arith) in
    let whole : cut (length bytes) ≡ (bytes, []) = rw (front, back) refl in
    sym whole ∙ ap cut (sym is)

-- the first piece is a pair where it is not empty
pub first_pair : (rest pair after : List ℕ) → (pair, after) ≡ form.split_once 38 rest → 0 < length pair → pairs_of rest ≡ named (form.split_once 61 pair) ∷ pairs_of after
first_pair rest pair after cut some =
    let front : pair ≡ (form.split_once 38 rest).0 = ap (λ (p : List ℕ × List ℕ). p.0) cut in
    let back : after ≡ (form.split_once 38 rest).1 = ap (λ (p : List ℕ × List ℕ). p.1) cut in
    let long : 0 < length ((form.split_once 38 rest).0) = subst (λ (l : List ℕ). 0 < length l) front some in
    ap (map named) (raw_pairs_first rest long)
    ∙ ap (λ (l : List ℕ). named (form.split_once 61 l) ∷ map named (form.raw_pairs ((form.split_once 38 rest).1))) (sym front)
    ∙ ap (λ (l : List ℕ). named (form.split_once 61 pair) ∷ map named (form.raw_pairs l)) (sym back)

pub empty_pair : (rest pair after : List ℕ) → (pair, after) ≡ form.split_once 38 rest → length pair ≡ 0 → pairs_of rest ≡ pairs_of after
empty_pair rest pair after cut none =
    let front : pair ≡ (form.split_once 38 rest).0 = ap (λ (p : List ℕ × List ℕ). p.0) cut in
    let back : after ≡ (form.split_once 38 rest).1 = ap (λ (p : List ℕ × List ℕ). p.1) cut in
    ap (map named) (raw_pairs_skip rest (ap length (sym front) ∙ none)) ∙ ap (λ (l : List ℕ). map named (form.raw_pairs l)) (sym back)

pub no_pairs : (rest : List ℕ) → length rest ≡ 0 → pairs_of rest ≡ []
no_pairs [] none = ap (map named) raw_pairs-nil
no_pairs (b ∷ bs) none = absurd (omega arith)

module _ (whole views : List (List ℕ × List ℕ)) where
  -- what was read and the pairs that are left are all pairs
  abbrev pub AreLeft : List ℕ → Type 0
  AreLeft rest = views ++ pairs_of rest ≡ whole

  pub pair_read : (rest pair after name value text : List ℕ) → (pair, after) ≡ form.split_once 38 rest → 0 < length pair
      → (name, value) ≡ form.split_once 61 pair → text ≡ text_of name → AreLeft rest → (views ++ (text, value) ∷ []) ++ pairs_of after ≡ whole
  pair_read rest pair after name value text cut some halves decoded left =
      let first : pairs_of rest ≡ named (form.split_once 61 pair) ∷ pairs_of after = first_pair rest pair after cut some in
      let view : (text, value) ≡ named (form.split_once 61 pair) = ap (λ t. (t, value)) decoded ∙ ap named halves in
      append_assoc views ((text, value) ∷ []) (pairs_of after) ∙ ap (λ (p : List ℕ × List ℕ). views ++ p ∷ pairs_of after) view ∙ ap (λ l. views ++ l) (sym first) ∙ left

  pub pair_skipped : (rest pair after : List ℕ) → (pair, after) ≡ form.split_once 38 rest → length pair ≡ 0 → AreLeft rest → AreLeft after
  pair_skipped rest pair after cut none left = ap (λ l. views ++ l) (sym (empty_pair rest pair after cut none)) ∙ left

  pub all_read : (rest : List ℕ) → length rest ≡ 0 → AreLeft rest → views ≡ whole
  all_read rest none left = sym (append-nil views) ∙ ap (λ l. views ++ l) (sym (no_pairs rest none)) ∙ left
