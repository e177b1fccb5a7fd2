-- The signs of sums and differences that wrap.
use Rattle.std.proofs.Common.{◌≡◌, ℕ, suc, ◌+◌, ◌-◌, ◌%◌, ◌^◌, ◌<◌, ◌≤◌, min, arith, ℤ, pos, negsuc, ◌+ℤ◌, ◌-ℤ◌, ◌≤ℤ◌, sym, ap, ◌∙◌, ◌⊎◌, inl, inr, w64, to_z, of_z, SFits, Fits, bit_and, bit_or, cond}
use lib.Bits.{bit_xor}
use Rattle.std.specs.Int.{bit_at}
use Rattle.std.proofs.lemmas.Int.{ints, to_z_pos, to_z-of_z}
use Rattle.std.proofs.Math.Facts.{Fits-of_z}
use Rattle.std.proofs.lemmas.Bool.{cases_lt, le-ltb}
use Rattle.std.proofs.lemmas.Nat.{xor_lt, or_lt, le_or_l, le_or_r, and_le_l}
use Rattle.std.proofs.lemmas.Nat.Bits.{bit_at_and, bit_at_xor, bit_at-lt}

low_sign : (n : ℕ) → n < 2 ^ 63 → bit_at n 63 ≡ 0
low_sign n f = omega arith

high_sign : (n : ℕ) → n < 2 ^ 64 → 2 ^ 63 ≤ n → bit_at n 63 ≡ 1
high_sign n f h = omega arith

-- a number on 64 bits read with its sign
record Signed (n : ℕ) (z : ℤ) : Type 0 where
  low : n < 2 ^ 63 → z ≡ pos n
  high : 2 ^ 63 ≤ n → z ≡ pos n -ℤ pos (2 ^ 64)

high_value : (n : ℕ) → n < 2 ^ 64 → 2 ^ 63 ≤ n → to_z w64 n ≡ pos n -ℤ pos (2 ^ 64)
high_value n f h = ap (λ b. cond b (pos n) (negsuc (2 ^ 64 - suc n))) (le-ltb n (2 ^ 63) h) ∙ omega (arith, ints)

signed : (n : ℕ) → n < 2 ^ 64 → Signed n (to_z w64 n)
signed n f = record { low = λ h. to_z_pos w64 n h; high = λ h. high_value n f h }

by_lt : {P : Type 0} (m n : ℕ) → (m < n → P) → (n ≤ m → P) → P
by_lt m n f g = elim (cases_lt m n) [ inl h ↦ f h | inr h ↦ g h ]

-- where a number is not negative its highest bit is clear
pub clear : (n : ℕ) → n < 2 ^ 64 → pos 0 ≤ℤ to_z w64 n → bit_at n 63 ≡ 0
clear n f h = by_lt n (2 ^ 63) (λ l. low_sign n l) (λ g. let e = high_value n f g in absurd (omega (arith, ints)))

-- the sum in the numbers' bits
sum_signed : (m n s : ℕ) (x y z : ℤ) → m < 2 ^ 64 → n < 2 ^ 64 → s ≡ (m + n) % 2 ^ 64 → (bit_at m 63 ≡ bit_at s 63) ⊎ (bit_at n 63 ≡ bit_at s 63) → Signed m x → Signed n y → Signed s z → x +ℤ y ≡ z
sum_signed m n s x y z f g e h a b c =
    by_lt m (2 ^ 63)
    (λ ml. by_lt n (2 ^ 63)
    (λ nl. by_lt s (2 ^ 63)
    (λ sl. let p = a.low ml in let q = b.low nl in let r = c.low sl in omega (arith, ints))
    (λ sh. let p = low_sign m ml in let q = low_sign n nl in let r = high_sign s (omega arith) sh in absurd (elim h [ inl u ↦ omega arith | inr u ↦ omega arith ])))
    (λ nh. by_lt s (2 ^ 63)
    (λ sl. let p = a.low ml in let q = b.high nh in let r = c.low sl in omega (arith, ints))
    (λ sh. let p = a.low ml in let q = b.high nh in let r = c.high sh in omega (arith, ints))))
    (λ mh. by_lt n (2 ^ 63)
    (λ nl. by_lt s (2 ^ 63)
    (λ sl. let p = a.high mh in let q = b.low nl in let r = c.low sl in omega (arith, ints))
    (λ sh. let p = a.high mh in let q = b.low nl in let r = c.high sh in omega (arith, ints)))
    (λ nh. by_lt s (2 ^ 63)
    (λ sl. let p = high_sign m f mh in let q = high_sign n g nh in let r = low_sign s sl in absurd (elim h [ inl u ↦ omega arith | inr u ↦ omega arith ]))
    (λ sh. let p = a.high mh in let q = b.high nh in let r = c.high sh in omega (arith, ints))))

two_bits : (a b c p q : ℕ) → a < 2 → b < 2 → c < 2 → p ≡ (a + c) % 2 → q ≡ (b + c) % 2 → min p q ≡ 0 → (a ≡ c) ⊎ (b ≡ c)
two_bits a b c p q i j k e f h = by_lt (a + c) 1 (λ l. inl (omega arith)) (λ g. by_lt 1 (a + c) (λ l. inl (omega arith)) (λ l. inr (omega arith)))

pub below_64 : (z : ℤ) → SFits w64 z → of_z w64 z < 2 ^ 64
below_64 z f = let g : Fits w64 (of_z w64 z) = Fits-of_z f in omega arith

pub mask_below : (a b : ℕ) → a < 2 ^ 64 → bit_and a b < 2 ^ 64
mask_below a b h = let e = and_le_l a b in omega arith

-- a sum whose mark is not negative did not wrap
pub sum_kept : (x y : ℤ) (s : ℕ) → SFits w64 x → SFits w64 y → s ≡ (of_z w64 x + of_z w64 y) % 2 ^ 64 → pos 0 ≤ℤ to_z w64 (bit_and (bit_xor (of_z w64 x) s) (bit_xor (of_z w64 y) s)) → x +ℤ y ≡ to_z w64 s
sum_kept x y s f g e h =
    let m = of_z w64 x in
    let n = of_z w64 y in
    let ms : m < 2 ^ 64 = below_64 x f in
    let ns : n < 2 ^ 64 = below_64 y g in
    let ss : s < 2 ^ 64 = omega arith in
    let low = clear (bit_and (bit_xor m s) (bit_xor n s)) (mask_below (bit_xor m s) (bit_xor n s) (xor_lt 64 m s ms ss)) h in
    let same = two_bits (bit_at m 63) (bit_at n 63) (bit_at s 63) (bit_at (bit_xor m s) 63) (bit_at (bit_xor n s) 63) (bit_at-lt m 63) (bit_at-lt n 63) (bit_at-lt s 63) (bit_at_xor m s 63) (bit_at_xor n s 63) (sym (bit_at_and (bit_xor m s) (bit_xor n s) 63) ∙ low) in
    ap (λ z. z +ℤ y) (sym (to_z-of_z w64 x f)) ∙ ap (λ z. to_z w64 m +ℤ z) (sym (to_z-of_z w64 y g))
    ∙ sum_signed m n s _ _ _ ms ns e same (signed m ms) (signed n ns) (signed s ss)

-- where two numbers joined bit by bit are not negative, neither of them is
pub or_left : (m n : ℕ) → m < 2 ^ 64 → n < 2 ^ 64 → pos 0 ≤ℤ to_z w64 (bit_or m n) → pos 0 ≤ℤ to_z w64 m
or_left m n f g h =
    let os = or_lt 64 m n f g in
    by_lt m (2 ^ 63)
    (λ l. let k = to_z_pos w64 m l in omega (arith, ints))
    (λ u. let le = le_or_l m n in let e = high_value (bit_or m n) os (omega arith) in absurd (omega (arith, ints)))

pub or_right : (m : ℕ) (y : ℤ) → m < 2 ^ 64 → SFits w64 y → pos 0 ≤ℤ to_z w64 (bit_or m (of_z w64 y)) → pos 0 ≤ℤ y
or_right m y f g h =
    let n = of_z w64 y in
    let ns : n < 2 ^ 64 = below_64 y g in
    let os = or_lt 64 m n f ns in
    by_lt n (2 ^ 63)
    (λ l. let e : to_z w64 n ≡ y = to_z-of_z w64 y g in let k = to_z_pos w64 n l in omega (arith, ints))
    (λ u. let le = le_or_r m n in let e = high_value (bit_or m n) os (omega arith) in absurd (omega (arith, ints)))

-- the difference in the numbers' bits
difference_signed : (m n s : ℕ) (x y z : ℤ) → m < 2 ^ 64 → n < 2 ^ 64 → s ≡ (m + (2 ^ 64 - n)) % 2 ^ 64 → (bit_at m 63 ≡ bit_at n 63) ⊎ (bit_at m 63 ≡ bit_at s 63) → Signed m x → Signed n y → Signed s z → x -ℤ y ≡ z
difference_signed m n s x y z f g e h a b c =
    by_lt m (2 ^ 63)
    (λ ml. by_lt n (2 ^ 63)
    (λ nl. by_lt s (2 ^ 63)
    (λ sl. let p = a.low ml in let q = b.low nl in let r = c.low sl in omega (arith, ints))
    (λ sh. let p = a.low ml in let q = b.low nl in let r = c.high sh in omega (arith, ints)))
    (λ nh. by_lt s (2 ^ 63)
    (λ sl. let p = a.low ml in let q = b.high nh in let r = c.low sl in omega (arith, ints))
    (λ sh. let p = low_sign m ml in let q = high_sign n g nh in let r = high_sign s (omega arith) sh in absurd (elim h [ inl u ↦ omega arith | inr u ↦ omega arith ]))))
    (λ mh. by_lt n (2 ^ 63)
    (λ nl. by_lt s (2 ^ 63)
    (λ sl. let p = high_sign m f mh in let q = low_sign n nl in let r = low_sign s sl in absurd (elim h [ inl u ↦ omega arith | inr u ↦ omega arith ]))
    (λ sh. let p = a.high mh in let q = b.low nl in let r = c.high sh in omega (arith, ints)))
    (λ nh. by_lt s (2 ^ 63)
    (λ sl. let p = a.high mh in let q = b.high nh in let r = c.low sl in omega (arith, ints))
    (λ sh. let p = a.high mh in let q = b.high nh in let r = c.high sh in omega (arith, ints))))

two_bits_left : (a b c p q : ℕ) → a < 2 → b < 2 → c < 2 → p ≡ (a + b) % 2 → q ≡ (a + c) % 2 → min p q ≡ 0 → (a ≡ b) ⊎ (a ≡ c)
two_bits_left a b c p q i j k e f h = by_lt (a + b) 1 (λ l. inl (omega arith)) (λ g. by_lt 1 (a + b) (λ l. inl (omega arith)) (λ l. inr (omega arith)))

-- a difference whose mark is not negative did not wrap
pub difference_kept : (x y : ℤ) (s : ℕ) → SFits w64 x → SFits w64 y → s ≡ (of_z w64 x + (2 ^ 64 - of_z w64 y)) % 2 ^ 64 → pos 0 ≤ℤ to_z w64 (bit_and (bit_xor (of_z w64 x) (of_z w64 y)) (bit_xor (of_z w64 x) s)) → x -ℤ y ≡ to_z w64 s
difference_kept x y s f g e h =
    let m = of_z w64 x in
    let n = of_z w64 y in
    let ms : m < 2 ^ 64 = below_64 x f in
    let ns : n < 2 ^ 64 = below_64 y g in
    let ss : s < 2 ^ 64 = omega arith in
    let low = clear (bit_and (bit_xor m n) (bit_xor m s)) (mask_below (bit_xor m n) (bit_xor m s) (xor_lt 64 m n ms ns)) h in
    let same = two_bits_left (bit_at m 63) (bit_at n 63) (bit_at s 63) (bit_at (bit_xor m n) 63) (bit_at (bit_xor m s) 63) (bit_at-lt m 63) (bit_at-lt n 63) (bit_at-lt s 63) (bit_at_xor m n 63) (bit_at_xor m s 63) (sym (bit_at_and (bit_xor m n) (bit_xor m s) 63) ∙ low) in
    ap (λ z. z -ℤ y) (sym (to_z-of_z w64 x f)) ∙ ap (λ z. to_z w64 m -ℤ z) (sym (to_z-of_z w64 y g))
    ∙ difference_signed m n s _ _ _ ms ns e same (signed m ms) (signed n ns) (signed s ss)
