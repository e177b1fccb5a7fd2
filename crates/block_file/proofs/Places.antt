-- Blocks of a content.
use Rattle.std.proofs.Common.{Bool, true, false, IsTrue, ◌-◌, ◌≡◌, ◌≢◌, ℕ, ◌+◌, ◌*◌, ◌<◌, ◌≤◌, ◌/◌, ◌%◌, ◌++◌, ◌⊎◌, inl, inr, zero, suc, List, length, get_or, take, drop, flat_map, arith, refl, sym, ap, ◌∙◌, length-drop, mul-le-mul_left, mul-suc, take-add, div-add-mod'}
use Rattle.std.specs.List.{range_with_len}
use Rattle.std.proofs.lemmas.Grind.{common_steps, elements, same_number_lists}
use Rattle.std.proofs.lemmas.List.{same_lists, length-take, drop-drop}
use Rattle.std.proofs.lemmas.Bool.{cases_lt}
use Rattle.disk_face.specs.Disk.{Holds, Torn}
use Rattle.std.proofs.lemmas.List.FromFn.{length-range_with_len, get_or-range_with_len}
use Rattle.block_file.specs.State.{BlocksState, block_at, overreads_of, one, times}
use Rattle.block_file.specs.Words.{OthersKept, OnlyReads, Moves}
use Rattle.block_file.proofs.Times.{one_same, times_at}

held : (n k : ℕ) (content bytes : List ℕ) → length bytes ≡ n → Holds content (n * k) bytes → bytes ≡ take n (drop (n * k) content)
held n k content bytes len holds =
    same_lists _ _ (grind (arith, common_steps, holds.within)) (λ i d hi. grind (arith, elements, holds.each i, holds.within))

-- bytes that a content has at a block's place are that block
pub held_block : (content bytes : List ℕ) (k : ℕ) → length bytes ≡ 4096 → Holds content (4096 * k) bytes → bytes ≡ block_at content k
unfolding block_at
held_block content bytes k len holds = held 4096 k content bytes len holds

-- bytes that a content has from a place on are its bytes there
held_run : (at : ℕ) (content bytes : List ℕ) → Holds content at bytes → bytes ≡ take (length bytes) (drop at content)
held_run at content bytes holds =
    same_lists _ _ (grind (arith, common_steps, holds.within)) (λ i d hi. grind (arith, elements, holds.each i, holds.within))

-- neighbouring blocks, one behind the other, are the bytes from the first one's place on
joined_blocks : (content : List ℕ) (n k : ℕ) → flat_map (block_at content) (range_with_len k n) ≡ take (4096 * n) (drop (4096 * k) content)
unfolding block_at
joined_blocks content zero k = refl
joined_blocks content (suc n) k =
    let next : 4096 * k + 4096 ≡ 4096 * (k + 1) = omega arith in
    let size : 4096 + 4096 * n ≡ 4096 * suc n = omega arith in
    ap (λ l. take 4096 (drop (4096 * k) content) ++ l) (joined_blocks content n (k + 1))
    ∙ ap (λ l. take 4096 (drop (4096 * k) content) ++ take (4096 * n) l) (ap (λ i. drop i content) (sym next) ∙ sym (drop-drop 4096 (4096 * k) content))
    ∙ sym (take-add 4096 (4096 * n) (drop (4096 * k) content))
    ∙ ap (λ i. take i (drop (4096 * k) content)) size

-- bytes that a content has at neighbouring blocks' places are those blocks
pub held_blocks : (content bytes : List ℕ) (k n : ℕ) → length bytes ≡ n → n % 4096 ≡ 0 → Holds content (4096 * k) bytes → bytes ≡ flat_map (block_at content) (range_with_len k (n / 4096))
held_blocks content bytes k n long whole holds =
    let size : length bytes ≡ 4096 * (n / 4096) = omega (arith, div-add-mod' n 4096) in
    held_run (4096 * k) content bytes holds ∙ ap (λ i. take i (drop (4096 * k) content)) size ∙ sym (joined_blocks content (n / 4096) k)

-- a place of block j is outside block k
place_apart : (n j k i : ℕ) → j ≢ k → i < n → (n * j + i < n * k) ⊎ (n * k + n ≤ n * j + i)
place_apart n j k i ne inside = elim (cases_lt j k) [
  | inl lt ↦ inl (omega (arith, mul-le-mul_left n (let h : suc j ≤ k = omega arith in h), mul-suc n j))
  | inr le ↦ inr (omega (arith, mul-le-mul_left n (let h : suc k ≤ j = omega arith in h), mul-suc n k))
]

-- contents that agree outside block k have the same other blocks
others_kept : (n k : ℕ) (old new : List ℕ) → length old ≤ length new → ((i : ℕ) → i < length old → (i < n * k) ⊎ (n * k + n ≤ i) → get_or new i 0 ≡ get_or old i 0)
    → (j : ℕ) → j ≢ k → length (take n (drop (n * j) old)) ≡ n → take n (drop (n * j) new) ≡ take n (drop (n * j) old)
others_kept n k old new longer same j ne whole =
    let inside : n * j + n ≤ length old = grind (arith, common_steps) in
    let at = λ (i : ℕ) (hi : i < n). same (n * j + i) (omega arith) (place_apart n j k i ne hi) in
    same_number_lists _ _ (grind (arith, common_steps)) (λ i hi. grind (arith, elements, at i))

-- a write to block k, however it ended, leaves each other whole block
pub kept_blocks : (old new : List ℕ) (k m : ℕ) → m ≡ 4096 → Torn (4096 * k) m old new → OthersKept k (block_at old) (block_at new)
unfolding block_at
kept_blocks old new k m e torn =
    others_kept 4096 k old new torn.no_shorter (λ i lt out. elim out [ inl below ↦ torn.below i lt below | inr above ↦ torn.above i lt (omega arith) ])

-- a whole block lies inside
pub whole_inside : (content : List ℕ) (k : ℕ) → length (block_at content k) ≡ 4096 → 4096 * k + 4096 ≤ length content
unfolding block_at
whole_inside content k whole = omega (arith, length-take {A = ℕ}, length-drop {A = ℕ})

-- and a block that lies inside is whole
pub inside_whole : (content : List ℕ) (k : ℕ) → 4096 * k + 4096 ≤ length content → length (block_at content k) ≡ 4096
unfolding block_at
inside_whole content k inside = omega (arith, length-take {A = ℕ}, length-drop {A = ℕ})

-- a count that an honest disk leaves
pub same_overreads : (h h' : Bool) (a b : ℕ) → h' ≡ h → (IsTrue h → b ≡ a) → overreads_of h' b ≡ overreads_of h a
same_overreads true h' a b e same = rw e (same refl)
same_overreads false h' a b e same = rw e refl

-- a block that is whole lies inside, so its read does not go past the end
pub reads_block : (old new : BlocksState) (k m a b : ℕ) → m ≡ 4096 → new.content ≡ old.content → new.synced ≡ old.synced → new.uses ≡ old.uses → new.size ≡ old.size → new.honest ≡ old.honest
    → old.overreads ≡ overreads_of old.honest a → new.overreads ≡ overreads_of new.honest b → (IsTrue old.honest → 4096 * k + m ≤ length old.content → b ≡ a) → OnlyReads (one k) old new
reads_block old new k m a b e content synced uses size honest was is inside = record {
  content = content;
  synced = synced;
  uses = uses;
  size = size;
  honest = honest;
  overreads = λ whole. is ∙ same_overreads old.honest new.honest a b honest (λ h. inside h (omega (arith, e, whole_inside old.content k (whole h k (omega (arith, one_same k)))))) ∙ sym was;
}

-- so do neighbouring blocks, of which the last one is whole
pub reads_blocks : (old new : BlocksState) (k m a b : ℕ) → 0 < m → m % 4096 ≡ 0 → new.content ≡ old.content → new.synced ≡ old.synced → new.uses ≡ old.uses → new.size ≡ old.size → new.honest ≡ old.honest
    → old.overreads ≡ overreads_of old.honest a → new.overreads ≡ overreads_of new.honest b → (IsTrue old.honest → 4096 * k + m ≤ length old.content → b ≡ a)
    → OnlyReads (times (range_with_len k (m / 4096))) old new
reads_blocks old new k m a b some all content synced uses size honest was is inside =
    let n : ℕ = m / 4096 in
    let count : m ≡ 4096 * n = omega (arith, div-add-mod' m 4096) in
    let last : get_or (range_with_len k n) (n - 1) 0 ≡ k + (n - 1) = get_or-range_with_len k n (n - 1) 0 (omega arith) in
    let asked : 0 < times (range_with_len k n) (k + (n - 1)) = rw last at (times_at (range_with_len k n) (n - 1) (omega (arith, length-range_with_len k n))) in
    record {
      content = content;
      synced = synced;
      uses = uses;
      size = size;
      honest = honest;
      overreads = λ whole. is ∙ same_overreads old.honest new.honest a b honest (λ h. inside h (omega (arith, whole_inside old.content (k + (n - 1)) (whole h (k + (n - 1)) asked)))) ∙ sym was;
    }

-- contents that agree behind the header have the same whole blocks behind it
pub same_blocks : (old new : List ℕ) → length old ≤ length new → ((i : ℕ) → 4096 ≤ i → i < length old → get_or new i 0 ≡ get_or old i 0) → OthersKept 0 (block_at old) (block_at new)
unfolding block_at
same_blocks old new le same = others_kept 4096 0 old new le (λ i lt out. elim out [ inl below ↦ absurd (omega arith) | inr above ↦ same i (omega arith) lt ])

-- a write to block k, in use once, as its callers see it
pub write_moves : (old new : BlocksState) (k m : ℕ) → m ≡ 4096 → new.uses ≡ old.uses → new.size ≡ old.size → new.honest ≡ old.honest → new.overreads ≡ old.overreads → old.uses k ≡ 1 → 0 < k → Torn (4096 * k) m old.content new.content → Moves (one k) (one k) old new
write_moves old new k m e uses size honest overreads once above torn =
    let kept = kept_blocks old.content new.content k m e torn in
    record {
      uses = λ j. rw uses refl;
      kept = λ j h whole. kept j (λ same. absurd (let h' : one k k < old.uses k = rw same at h in omega (arith, one_same k))) whole;
      header = λ whole. kept 0 (omega arith) whole;
      overreads = overreads;
      size = size;
      honest = honest;
    }
