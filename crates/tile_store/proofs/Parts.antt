-- Bytes cut into blocks and joined again.
use Rattle.std.proofs.Common.{◌/◌, div-add-mod', below_more, ◌≡◌, ◌≢◌, ℕ, min, suc, All, replicate, ◌+◌, ◌-◌, ◌*◌, ◌<◌, ◌≤◌, List, [], ◌∷◌, ◌++◌, length, get_or, take, drop, arith, refl, sym, ◌∙◌, ap, inl, inr, flat_map}
use Rattle.std.proofs.lemmas.Bool.{cases_lt}
use Rattle.std.proofs.lemmas.List.{length-append, length-drop, length-replicate, length-take-le, ext_get_or, get_or_default, get_or_append_left, get_or-append_right, get_or-replicate, get_or-take, get_or-drop}
use Rattle.std.proofs.lemmas.List.Concat.{flat_map-cons}
use Rattle.std.proofs.lemmas.List.FromFn.{length-range_with_len, get_or-range_with_len}
use Rattle.std.proofs.Math.Seq.{take-append_seam}
use Rattle.std.specs.List.{range_with_len}
use Rattle.block_file.specs.State.{BlocksState, block, block_at, one, times}
use Rattle.block_file.specs.Words.{Moves}
use Rattle.block_file.proofs.Times.{one_other, times_at, one_place, times-cons, times_none}
use Rattle.tile_index.specs.declared.entry.Entry.{Entry}
use Rattle.tile_store.specs.Stored.{entry_data, IsPadded}
use Rattle.tile_store.specs.Written.{HoldsPart, AreFresh}
use Rattle.std.proofs.lemmas.Bool.{cases_eq}

-- how many bytes whole blocks have
length-joined : (f : ℕ → List ℕ) (ks : List ℕ) → ((i : ℕ) → i < length ks → length (f (get_or ks i 0)) ≡ 4096) → length (flat_map f ks) ≡ 4096 * length ks
length-joined f [] whole = refl
length-joined f (k ∷ ks) whole =
    let rest = length-joined f ks (λ i h. whole (suc i) (omega (arith, h))) in
    rw flat_map-cons (omega (arith, length-append (f k) (flat_map f ks), whole 0 (omega arith), rest))

-- the bytes of blocks that hold the parts of some bytes from one on
joined_at : (f : ℕ → List ℕ) (ks : List ℕ) (first : ℕ) (bytes : List ℕ) (j : ℕ) → ((i p : ℕ) → i < length ks → p ≡ first + i → HoldsPart (f (get_or ks i 0)) p bytes) → j < 4096 * length ks → 4096 * first + j < length bytes
    → get_or (flat_map f ks) j 0 ≡ get_or bytes (4096 * first + j) 0
joined_at f [] first bytes j parts h within = absurd (omega (arith, h))
joined_at f (k ∷ ks) first bytes j parts h within =
    let here : HoldsPart (f k) first bytes = parts 0 first (omega arith) (omega arith) in
    rw flat_map-cons (elim (cases_lt j 4096) [
      | inl lt ↦ get_or_append_left (f k) (flat_map f ks) 0 j (omega (arith, lt, here.whole)) ∙ here.part j lt within
      | inr ge ↦
          let later = λ (i p : ℕ) (lt : i < length ks) (is : p ≡ suc first + i). parts (suc i) p (omega (arith, lt)) (omega (arith, is)) in
          let place : 4096 * suc first + (j - 4096) ≡ 4096 * first + j = omega (arith, ge) in
          get_or-append_right (f k) (flat_map f ks) 4096 j 0 here.whole ge ∙ joined_at f ks (suc first) bytes (j - 4096) later (omega (arith, h, ge)) (omega (arith, within, ge)) ∙ ap (λ (n : ℕ). get_or bytes n 0) place
    ])

-- blocks that hold the parts of bytes in order hold the bytes
pub parts_joined : (f : ℕ → List ℕ) (ks : List ℕ) (bytes : List ℕ) → ((i : ℕ) → i < length ks → HoldsPart (f (get_or ks i 0)) i bytes) → length bytes ≤ 4096 * length ks → take (length bytes) (flat_map f ks) ≡ bytes
parts_joined f ks bytes parts enough =
    let size = length-joined f ks (λ i h. (parts i h).whole) in
    let long : length (take (length bytes) (flat_map f ks)) ≡ length bytes = length-take-le (length bytes) (flat_map f ks) (omega (arith, size, enough)) in
    ext_get_or 0 (take (length bytes) (flat_map f ks)) bytes long (λ j h.
    let start : 4096 * 0 + j ≡ j = omega arith in
    let within : 4096 * 0 + j < length bytes = omega (arith, h, long) in
    let at = joined_at f ks 0 bytes j (λ i p lt is. (let e : p ≡ i = omega arith in rw e (parts i lt))) (omega (arith, within, enough)) within in
    get_or-take (length bytes) (flat_map f ks) j 0 (omega (arith, within)) ∙ at ∙ ap (λ (n : ℕ). get_or bytes n 0) start)

-- behind the bytes stand zeros
zero_at : (f : ℕ → List ℕ) (ks : List ℕ) (first : ℕ) (bytes : List ℕ) (j : ℕ) → ((i p : ℕ) → i < length ks → p ≡ first + i → HoldsPart (f (get_or ks i 0)) p bytes) → j < 4096 * length ks → length bytes ≤ 4096 * first + j
    → get_or (flat_map f ks) j 0 ≡ 0
zero_at f [] first bytes j parts h past = absurd (omega (arith, h))
zero_at f (k ∷ ks) first bytes j parts h past =
    let here : HoldsPart (f k) first bytes = parts 0 first (omega arith) (omega arith) in
    rw flat_map-cons (elim (cases_lt j 4096) [
      | inl lt ↦ get_or_append_left (f k) (flat_map f ks) 0 j (omega (arith, lt, here.whole)) ∙ here.padded j lt past
      | inr ge ↦
          let later = λ (i p : ℕ) (lt : i < length ks) (is : p ≡ suc first + i). parts (suc i) p (omega (arith, lt)) (omega (arith, is)) in
          get_or-append_right (f k) (flat_map f ks) 4096 j 0 here.whole ge ∙ zero_at f ks (suc first) bytes (j - 4096) later (omega (arith, h, ge)) (omega (arith, past, ge))
    ])

pub parts_padded : (f : ℕ → List ℕ) (ks : List ℕ) (bytes : List ℕ) → ((i : ℕ) → i < length ks → HoldsPart (f (get_or ks i 0)) i bytes) → All (λ b. b ≡ 0) (drop (length bytes) (flat_map f ks))
parts_padded f ks bytes parts j d h =
    let size = length-joined f ks (λ i lt. (parts i lt).whole) in
    let place : ℕ = length bytes + j in
    let within : place < length (flat_map f ks) = omega (arith, h, length-drop (length bytes) (flat_map f ks)) in
    let zero = zero_at f ks 0 bytes place (λ i p lt is. (let e : p ≡ i = omega arith in rw e (parts i lt))) (omega (arith, within, size)) (omega arith) in
    get_or-drop (length bytes) (flat_map f ks) j d ∙ sym (get_or_default (flat_map f ks) place 0 d within) ∙ zero

-- blocks that stand once stand at one place each
once_of : (ks : List ℕ) (s : BlocksState) → AreFresh ks s → (k : ℕ) → times ks k ≤ 1
once_of ks s fresh k = elim (cases_eq (times ks k) 0) [ inl none ↦ omega (arith, none) | inr some ↦ (let here = fresh k (omega (arith, some)) in omega (arith, here.1)) ]

-- one more block was written
pub parts_more : (numbers : List ℕ) (place : ℕ) (bytes written : List ℕ) (start now new : BlocksState) → AreFresh numbers start → place < length numbers → Moves (times numbers) (times numbers) start now
    → Moves (one (get_or numbers place 0)) (one (get_or numbers place 0)) now new
    → ((i : ℕ) → i < place → HoldsPart (block now (get_or numbers i 0)) i bytes) → HoldsPart written place bytes → block new (get_or numbers place 0) ≡ written
    → (i : ℕ) → i < place + 1 → HoldsPart (block new (get_or numbers i 0)) i bytes
parts_more numbers place bytes written start now new fresh inside done m parts here is = below_more (λ i. HoldsPart (block new (get_or numbers i 0)) i bytes) place (λ i lt.
    let k : ℕ = get_or numbers i 0 in
    let b : ℕ = get_or numbers place 0 in
    let old = parts i lt in
    let other : b ≢ k = λ e. absurd (omega (arith, one_place numbers i place (once_of numbers start fresh) (omega (arith, lt, inside)) inside (sym e), lt)) in
    let used = (fresh k (times_at numbers i (omega (arith, lt, inside)))).0 in
    rw (m.kept k (omega (arith, one_other b k other, used, done.uses k)) old.whole) old) (rw is here)

-- what is whole at each place is whole
pub whole_listed : (f : ℕ → List ℕ) (ks : List ℕ) → ((i : ℕ) → i < length ks → length (f (get_or ks i 0)) ≡ 4096) → (k : ℕ) → 0 < times ks k → length (f k) ≡ 4096
whole_listed f [] whole k some = absurd (omega (arith, some, times_none k))
whole_listed f (b ∷ ks) whole k some = elim (cases_eq b k) [
  | inl e ↦ rw (← e) (whole 0 (omega arith))
  | inr ne ↦ whole_listed f ks (λ i h. whole (suc i) (omega (arith, h))) k (omega (arith, some, times-cons b ks k, one_other b k ne))
]

-- bytes copied into a block of zeros
pub holds_copied : (bytes piece zeros : List ℕ) (place from n : ℕ) → from ≡ min (length bytes) (place * 4096) → n ≡ min 4096 (length bytes - from) → piece ≡ take ((from + n) - from) (drop from bytes) → length piece ≡ length (take n zeros) → zeros ≡ replicate 4096 0 → HoldsPart (piece ++ drop n zeros) place bytes
holds_copied bytes piece zeros place from n is_from is_n is same are =
    let size : length zeros ≡ 4096 = ap length are ∙ length-replicate {A = ℕ} 4096 0 in
    let long : length piece ≡ n = same ∙ length-take-le n zeros (omega (arith, size, is_n)) in
    record {
      whole = omega (arith, length-append piece (drop n zeros), length-drop n zeros, long, size, is_n);
      part = λ j lt within.
          let start : from ≡ 4096 * place = omega (arith, within, is_from) in
          let inside : j < (from + n) - from = omega (arith, within, start, is_n, lt) in
          get_or_append_left piece (drop n zeros) 0 j (omega (arith, long, inside)) ∙ ap (λ (xs : List ℕ). get_or xs j 0) is ∙ get_or-take ((from + n) - from) (drop from bytes) j 0 inside
          ∙ get_or-drop from bytes j 0 ∙ ap (λ (m : ℕ). get_or bytes (m + j) 0) start;
      padded = λ j lt past.
          let behind : n ≤ j = omega (arith, past, is_n, is_from) in
          get_or-append_right piece (drop n zeros) n j 0 long behind ∙ get_or-drop n zeros (j - n) 0
          ∙ ap (λ (xs : List ℕ). get_or xs (n + (j - n)) 0) are ∙ get_or-replicate 4096 (n + (j - n)) 0 0 (omega (arith, lt, behind));
    }

-- the bytes that blocks hold are an entry's
pub data_written : (content : List ℕ) (e : Entry) (bytes numbers : List ℕ) → e.blocks ≡ numbers → e.length ≡ length bytes → take (length bytes) (flat_map (block_at content) numbers) ≡ bytes → bytes ≡ entry_data content e
unfolding entry_data
data_written content e bytes numbers blocks long is = sym (ap (λ (n : ℕ). take n (flat_map (block_at content) e.blocks)) long ∙ ap (λ (ks : List ℕ). take (length bytes) (flat_map (block_at content) ks)) blocks ∙ is)

-- and zeros stand behind them
pub padded_written : (content : List ℕ) (e : Entry) (bytes numbers : List ℕ) → e.blocks ≡ numbers → e.length ≡ length bytes → All (λ b. b ≡ 0) (drop (length bytes) (flat_map (block_at content) numbers)) → IsPadded content e
unfolding IsPadded
padded_written content e bytes numbers blocks long zeros = rw (blocks, long) zeros

-- what was written into all of a list stands in it
pub taken_back : (n : ℕ) (xs ys : List ℕ) → length xs ≡ n → take n (xs ++ ys) ≡ xs
taken_back n xs ys e = ap (λ k. take k (xs ++ ys)) (sym e) ∙ take-append_seam xs ys

-- numbers that rise by one each are those from the first one on
pub neighbours : (ks : List ℕ) (n : ℕ) → n ≡ 4096 * length ks → ((i : ℕ) → i < length ks → get_or ks i 0 ≡ get_or ks 0 0 + i) → range_with_len (get_or ks 0 0) (n / 4096) ≡ ks
neighbours ks n e rising =
    let first = get_or ks 0 0 in
    let many : n / 4096 ≡ length ks = omega (arith, e, div-add-mod' n 4096) in
    ap (range_with_len first) many
    ∙ ext_get_or 0 (range_with_len first (length ks)) ks (length-range_with_len first (length ks))
    (λ i h. get_or-range_with_len first (length ks) i 0 (omega (arith, h, length-range_with_len first (length ks))) ∙ sym (rising i (omega (arith, h, length-range_with_len first (length ks)))))
