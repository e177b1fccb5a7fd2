-- A buffer that is filled part by part, and bytes that are written part by part.
use Rattle.std.proofs.Common.{◌≡◌, ℕ, zero, suc, ◌+◌, ◌-◌, ◌<◌, ◌≤◌, ◌⊎◌, inl, inr, List, ◌++◌, length, take, drop, slice_index, refl, sym, ap, ◌∙◌, subst, arith}
use Rattle.std.proofs.lemmas.List.{length-append, length-take-le, get_or-take, get_or_append_left, get_or-append_right, take_rest}
use lib.Seq.{take-add}
use borrow.Rule.Slice.PartMut.{put_mid, post_of}
use Rattle.disk_face.specs.Disk.{Holds, Torn, Written}

below_or_not : (a b : ℕ) → (a < b) ⊎ (b ≤ a)
below_or_not a zero = inr (omega arith)
below_or_not zero (suc b) = inl (omega arith)
below_or_not (suc a) (suc b) = elim (below_or_not a b) [ inl l ↦ inl (omega arith) | inr m ↦ inr (omega arith) ]

-- with a part put behind the first f places, these are as before
before-part : (f k i : ℕ) (buf part : List ℕ) → f ≤ length buf → i < f → slice_index (put_mid f k buf part) i ≡ slice_index buf i
before-part f k i buf part within l =
    let front : length (take f buf) ≡ f = length-take-le f buf within in
    get_or_append_left (take f buf) (part ++ post_of f k buf) 0 i (omega (arith, front)) ∙ get_or-take f buf i 0 l

-- and the next ones are those of the part
in-part : (f k n i : ℕ) (buf part : List ℕ) → f ≤ length buf → n ≤ length part → f ≤ i → i < f + n
    → slice_index (put_mid f k buf part) i ≡ slice_index (take n part) (i - f)
in-part f k n i buf part within few low high =
    let front : length (take f buf) ≡ f = length-take-le f buf within in
    get_or-append_right (take f buf) (part ++ post_of f k buf) f i 0 front low
    ∙ get_or_append_left part (post_of f k buf) 0 (i - f) (omega arith)
    ∙ sym (get_or-take n part (i - f) 0 (omega arith))

-- there is room for the first n places of the part
pub room-more : (f k n : ℕ) (buf part : List ℕ) → f ≤ length buf → n ≤ length part → f + n ≤ length (put_mid f k buf part)
room-more f k n buf part within few =
    omega (
      arith,
      length-take-le f buf within,
      length-append (take f buf) (part ++ post_of f k buf),
      length-append part (post_of f k buf),
    )

-- a buffer whose first f places the content has, and then n more
pub Holds-more : (content : List ℕ) (at f k n : ℕ) (buf part : List ℕ) → f ≤ length buf → n ≤ length part
    → ((i : ℕ) → i < f → slice_index content (at + i) ≡ slice_index buf i)
    → Holds content (at + f) (take n part)
    → (i : ℕ) → i < f + n → slice_index content (at + i) ≡ slice_index (put_mid f k buf part) i
Holds-more content at f k n buf part within few before came i l =
    elim (below_or_not i f) [
      | inl m ↦ before i m ∙ sym (before-part f k i buf part within m)
      | inr m ↦ (
          let place : at + i ≡ at + f + (i - f) = omega arith in
          let inside : i - f < length (take n part) = omega (arith, length-take-le n part few) in
          ap (slice_index content) place ∙ came.each (i - f) inside ∙ sym (in-part f k n i buf part within few m l))
    ]

-- a write of some of a range, and then one of m places behind the first s
pub Torn-rest : (at n s m : ℕ) (a b c : List ℕ) → s + m ≤ n → Torn at n a b → Torn (at + s) m b c → Torn at n a c
Torn-rest at n s m a b c few first second = record {
  no_shorter = omega (arith, first.no_shorter, second.no_shorter);
  no_longer = omega (arith, first.no_longer, second.no_longer);
  below = λ i l u. second.below i (omega (arith, first.no_shorter)) (omega arith) ∙ first.below i l u;
  above = λ i l u. second.above i (omega (arith, first.no_shorter)) (omega arith) ∙ first.above i l u;
}

-- two writes, one behind the other, are one of both
Written-both : (at : ℕ) (xs ys a b c : List ℕ) → Written at xs a b → Written (at + length xs) ys b c → Written at (xs ++ ys) a c
Written-both at xs ys a b c first second =
    let count : length (xs ++ ys) ≡ length xs + length ys = length-append xs ys in
    record {
      holds = record {
        within = omega (arith, count, second.holds.within);
        each = λ i l.
            elim (below_or_not i (length xs)) [
              | inl m ↦
                  second.others.below (at + i) (omega (arith, first.holds.within)) (omega arith)
                  ∙ first.holds.each i m
                  ∙ sym (get_or_append_left xs ys 0 i m)
              | inr m ↦ (
                  let place : at + i ≡ at + length xs + (i - length xs) = omega arith in
                  ap (slice_index c) place
                  ∙ second.holds.each (i - length xs) (omega (arith, count))
                  ∙ sym (get_or-append_right xs ys (length xs) i 0 refl m))
            ];
      };
      gap = λ i l u. second.others.below i (omega (arith, first.holds.within)) (omega arith) ∙ first.gap i l u;
      others =
          subst (λ n. Torn at n a c) (sym count)
          (record {
            no_shorter = omega (arith, first.others.no_shorter, second.others.no_shorter);
            no_longer = omega (arith, first.others.no_longer, second.others.no_longer);
            below = λ i l u. second.others.below i (omega (arith, first.others.no_shorter)) (omega arith) ∙ first.others.below i l u;
            above = λ i l u.
                second.others.above i (omega (arith, first.others.no_shorter)) (omega arith) ∙ first.others.above i l (omega arith);
          });
    }

-- one more part, behind none or some
pub Written-more : (at s n : ℕ) (bytes a b c : List ℕ) → s ≤ length bytes → n ≤ length (take (length bytes - s) (drop s bytes))
    → (s ≡ 0 → b ≡ a) → (0 < s → Written at (take s bytes) a b)
    → Written (at + s) (take n (take (length bytes - s) (drop s bytes))) b c
    → Written at (take (s + n) bytes) a c
Written-more at zero n bytes a b c within few none some more =
    let all : take (length bytes - 0) (drop 0 bytes) ≡ bytes = take_rest bytes 0 in
    let here : at + 0 ≡ at = omega arith in
    let number : 0 + n ≡ n = omega arith in
    subst (λ k. Written at (take k bytes) a c) (sym number)
    (subst (λ z. Written at (take n bytes) z c) (none refl)
    (subst (λ p. Written p (take n bytes) b c) here (subst (λ l. Written (at + 0) (take n l) b c) all more)))
Written-more at (suc s) n bytes a b c within few none some more =
    let rest : take (length bytes - suc s) (drop (suc s) bytes) ≡ drop (suc s) bytes = take_rest bytes (suc s) in
    let count : length (take (suc s) bytes) ≡ suc s = length-take-le (suc s) bytes within in
    subst (λ l. Written at l a c) (sym (take-add (suc s) n bytes))
    (Written-both at (take (suc s) bytes) (take n (drop (suc s) bytes)) a b c (some (omega arith))
    (subst (λ p. Written (at + p) (take n (drop (suc s) bytes)) b c) (sym count)
    (subst (λ l. Written (at + suc s) (take n l) b c) rest more)))
