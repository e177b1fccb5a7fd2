-- What is kept of a product is enough.
use Rattle.std.proofs.Common.{◌≡◌, ℕ, zero, suc, ◌+◌, ◌*◌, ◌^◌, ◌<◌, ◌≤◌, min, List, [], ◌∷◌, ◌++◌, refl, sym, ap, ◌∙◌, arith, cond, not, Bool, true, false, ◌||◌, ℤ, pos, negsuc, ◌*ℤ◌, neg_ℤ, nat_abs, inl, inr, mul_assoc, mul_comm}
use Rattle.std.proofs.Math.Nat.{mul-le-mul_right, le-mul_of_pos_right}
use Rattle.std.proofs.lemmas.Int.{ints}
use Rattle.std.proofs.lemmas.Bool.{cases_lt, le-ltb}
use Rattle.wcps_mean.specs.declared.cell.PointFault.TheVariants.{Overflow}
use Rattle.wcps_mean.specs.declared.cell.Outcome.TheVariants.{Value, Fault}
use Rattle.wcps_mean.specs.declared.product.Product.{Product}
use Rattle.wcps_mean.specs.Cells.{ranged, differ}
use Rattle.wcps_mean.specs.Condensers.{product}
use Rattle.wcps_mean.specs.Magnitudes.{cap, is_zero, is_negative, magnitude_of, has_zero_of, sign_of, size_of}
use Rattle.wcps_mean.specs.Products.{StandsFor}

by_lt : {P : Type 0} (m n : ℕ) → (m < n → P) → (n ≤ m → P) → P
by_lt m n f g = elim (cases_lt m n) [ inl h ↦ f h | inr h ↦ g h ]

-- ---- one more factor

or_assoc : (a b c : Bool) → (a || b) || c ≡ a || (b || c)
or_assoc true b c = refl
or_assoc false b c = refl

or_false : (a : Bool) → a || false ≡ a
or_false true = refl
or_false false = refl

or_true : (a : Bool) → a || true ≡ true
or_true true = refl
or_true false = refl

differ_assoc : (a b c : Bool) → differ (differ a b) c ≡ differ a (differ b c)
differ_assoc false b c = refl
differ_assoc true true true = refl
differ_assoc true true false = refl
differ_assoc true false true = refl
differ_assoc true false false = refl

differ_false : (a : Bool) → differ a false ≡ a
differ_false true = refl
differ_false false = refl

has_zero-append : (zs ws : List ℤ) → has_zero_of (zs ++ ws) ≡ has_zero_of zs || has_zero_of ws
has_zero-append [] ws = refl
has_zero-append (z ∷ zs) ws = ap (λ b. is_zero z || b) (has_zero-append zs ws) ∙ sym (or_assoc (is_zero z) (has_zero_of zs) (has_zero_of ws))

sign-append : (zs ws : List ℤ) → sign_of (zs ++ ws) ≡ differ (sign_of zs) (sign_of ws)
sign-append [] ws = refl
sign-append (z ∷ zs) ws = ap (differ (is_negative z)) (sign-append zs ws) ∙ sym (differ_assoc (is_negative z) (sign_of zs) (sign_of ws))

size-append : (zs ws : List ℤ) → size_of (zs ++ ws) ≡ size_of zs * size_of ws
size-append [] ws = omega arith
size-append (z ∷ zs) ws = ap (λ n. magnitude_of z * n) (size-append zs ws) ∙ sym (mul_assoc (magnitude_of z) (size_of zs) (size_of ws))

has_zero-push : (zs : List ℤ) (x : ℤ) → has_zero_of (zs ++ x ∷ []) ≡ has_zero_of zs || is_zero x
has_zero-push zs x = has_zero-append zs (x ∷ []) ∙ ap (λ b. has_zero_of zs || b) (or_false (is_zero x))

sign-push : (zs : List ℤ) (x : ℤ) → sign_of (zs ++ x ∷ []) ≡ differ (sign_of zs) (is_negative x)
sign-push zs x = sign-append zs (x ∷ []) ∙ ap (differ (sign_of zs)) (differ_false (is_negative x))

size-push : (zs : List ℤ) (x : ℤ) → size_of (zs ++ x ∷ []) ≡ size_of zs * magnitude_of x
size-push zs x = size-append zs (x ∷ []) ∙ ap (λ n. size_of zs * n) (omega arith)

positive_one : (z : ℤ) → 0 < magnitude_of z
positive_one (pos zero) = omega arith
positive_one (pos (suc n)) = omega arith
positive_one (negsuc n) = omega arith

positive_product : (m n : ℕ) → 0 < m → 0 < n → 0 < m * n
positive_product zero n p q = absurd (omega arith)
positive_product (suc m) n p q = omega arith

pub positive_all : (zs : List ℤ) → 0 < size_of zs
positive_all [] = omega arith
positive_all (z ∷ zs) = positive_product (magnitude_of z) (size_of zs) (positive_one z) (positive_all zs)

cap_small : (c m : ℕ) → m < c → min m c ≡ m
cap_small c m h = omega arith

cap_large : (c m : ℕ) → c ≤ m → min m c ≡ c
cap_large c m h = omega arith

-- to cap before a product changes nothing after it
cap_product : (c m n : ℕ) → 0 < n → min (min m c * n) c ≡ min (m * n) c
cap_product c m n p =
    by_lt m c
    (λ small. ap (λ k. min (k * n) c) (cap_small c m small))
    (λ large.
    let whole : c ≤ c * n = le-mul_of_pos_right c p in
    let more : c * n ≤ m * n = mul-le-mul_right n large in
    ap (λ k. min (k * n) c) (cap_large c m large) ∙ cap_large c (c * n) whole ∙ sym (cap_large c (m * n) (omega arith)))

cap_both : (c m n : ℕ) → 0 < c → 0 < m → 0 < n → min (min m c * min n c) c ≡ min (m * n) c
cap_both c m n r p q =
    cap_product c m (min n c) (omega arith)
    ∙ ap (λ k. min k c) (mul_comm m (min n c)) ∙ cap_product c n m p ∙ ap (λ k. min k c) (mul_comm n m)

magnitude_is : (x : ℤ) → (x ≡ pos 0 → ⊥) → magnitude_of x ≡ nat_abs x
magnitude_is (pos zero) h = absurd (h refl)
magnitude_is (pos (suc n)) h = refl
magnitude_is (negsuc n) h = refl

zero_is : (x : ℤ) → (x ≡ pos 0 → ⊥) → is_zero x ≡ false
zero_is (pos zero) h = absurd (h refl)
zero_is (pos (suc n)) h = refl
zero_is (negsuc n) h = refl

pub stands_zero : (p q : Product) (zs : List ℤ) (x : ℤ) → x ≡ pos 0 → q.has_zero ≡ true → q.negative ≡ p.negative → q.magnitude ≡ p.magnitude → StandsFor p zs → StandsFor q (zs ++ x ∷ [])
stands_zero p q zs x e a b c h = record {
  zero_kept = a ∙ sym (has_zero-push zs x ∙ ap (λ z. has_zero_of zs || is_zero z) e ∙ or_true (has_zero_of zs));
  sign_kept = b ∙ h.sign_kept ∙ sym (sign-push zs x ∙ ap (λ z. differ (sign_of zs) (is_negative z)) e ∙ differ_false (sign_of zs));
  size_kept = c ∙ h.size_kept ∙ ap cap (sym (size-push zs x ∙ ap (λ z. size_of zs * magnitude_of z) e ∙ omega arith));
}

pub stands_more : (p q : Product) (zs : List ℤ) (x : ℤ) → (x ≡ pos 0 → ⊥) → q.has_zero ≡ p.has_zero → q.negative ≡ differ p.negative (is_negative x) → q.magnitude ≡ cap (p.magnitude * nat_abs x) → StandsFor p zs → StandsFor q (zs ++ x ∷ [])
stands_more p q zs x n a b c h = record {
  zero_kept = a ∙ h.zero_kept ∙ sym (has_zero-push zs x ∙ ap (λ z. has_zero_of zs || z) (zero_is x n) ∙ or_false (has_zero_of zs));
  sign_kept = b ∙ ap (λ s. differ s (is_negative x)) h.sign_kept ∙ sym (sign-push zs x);
  size_kept = c ∙ ap (λ m. cap (m * nat_abs x)) h.size_kept ∙ ap (λ k. cap (cap (size_of zs) * k)) (sym (magnitude_is x n))
      ∙ cap_product (2 ^ 63 + 1) (size_of zs) (magnitude_of x) (positive_one x) ∙ ap cap (sym (size-push zs x));
}

pub stands_both : (a b r : Product) (zs ws : List ℤ) → r.has_zero ≡ (a.has_zero || b.has_zero) → r.negative ≡ differ a.negative b.negative → r.magnitude ≡ cap (a.magnitude * b.magnitude) → StandsFor a zs → StandsFor b ws → StandsFor r (zs ++ ws)
stands_both a b r zs ws x y z h g = record {
  zero_kept = x ∙ ap (λ c. c || b.has_zero) h.zero_kept ∙ ap (λ c. has_zero_of zs || c) g.zero_kept ∙ sym (has_zero-append zs ws);
  sign_kept = y ∙ ap (λ c. differ c b.negative) h.sign_kept ∙ ap (differ (sign_of zs)) g.sign_kept ∙ sym (sign-append zs ws);
  size_kept = z ∙ ap (λ n. cap (n * b.magnitude)) h.size_kept ∙ ap (λ n. cap (cap (size_of zs) * n)) g.size_kept
      ∙ cap_both (2 ^ 63 + 1) (size_of zs) (size_of ws) (omega arith) (positive_all zs) (positive_all ws) ∙ ap cap (sym (size-append zs ws));
}

-- ---- the exact product

abbrev signed : Bool → ℕ → ℤ
signed true m = neg_ℤ (pos m)
signed false m = pos m

abbrev unless_zero : Bool → ℤ → ℤ
unless_zero true z = pos 0
unless_zero false z = z

times_zero : (z : ℤ) → pos 0 *ℤ z ≡ pos 0
times_zero (pos n) = omega (arith, ints)
times_zero (negsuc n) = omega (arith, ints)

positive_factor : (n : ℕ) (z s : Bool) (m : ℕ) → 0 < m → pos (suc n) *ℤ unless_zero z (signed s m) ≡ unless_zero z (signed s (suc n * m))
positive_factor n true s m p = ap pos (omega arith)
positive_factor n false false m p = refl
positive_factor n false true zero p = absurd (omega arith)
positive_factor n false true (suc m) p = refl

negative_factor : (n : ℕ) (z s : Bool) (m : ℕ) → 0 < m → negsuc n *ℤ unless_zero z (signed s m) ≡ unless_zero z (signed (not s) (suc n * m))
negative_factor n true s m p = let e : suc n * 0 ≡ 0 = omega arith in ap (λ k. neg_ℤ (pos k)) e
negative_factor n false false m p = refl
negative_factor n false true zero p = absurd (omega arith)
negative_factor n false true (suc m) p = refl

product_is : (zs : List ℤ) → product zs ≡ unless_zero (has_zero_of zs) (signed (sign_of zs) (size_of zs))
product_is [] = refl
product_is (pos zero ∷ zs) = times_zero (product zs)
product_is (pos (suc n) ∷ zs) = ap (λ z. pos (suc n) *ℤ z) (product_is zs) ∙ positive_factor n (has_zero_of zs) (sign_of zs) (size_of zs) (positive_all zs)
product_is (negsuc n ∷ zs) = ap (λ z. negsuc n *ℤ z) (product_is zs) ∙ negative_factor n (has_zero_of zs) (sign_of zs) (size_of zs) (positive_all zs)

-- the range test sees no difference between a magnitude and the capped one
ranged_cap : (s : Bool) (m : ℕ) → 0 < m → ranged (signed s (cap m)) ≡ ranged (signed s m)
ranged_cap false m p =
    by_lt m (2 ^ 63 + 1)
    (λ small. ap (λ k. ranged (pos k)) (cap_small (2 ^ 63 + 1) m small))
    (λ large. ap (λ k. ranged (pos k)) (cap_large (2 ^ 63 + 1) m large) ∙ sym (ap (λ b. cond b (Value (pos m)) (Fault Overflow)) (le-ltb m (2 ^ 63) (omega arith))))
ranged_cap true zero p = absurd (omega arith)
ranged_cap true (suc m) p =
    by_lt (suc m) (2 ^ 63 + 1)
    (λ small. ap (λ k. ranged (neg_ℤ (pos k))) (cap_small (2 ^ 63 + 1) (suc m) small))
    (λ large. ap (λ k. ranged (neg_ℤ (pos k))) (cap_large (2 ^ 63 + 1) (suc m) large) ∙ sym (ap (λ b. cond b (Value (negsuc m)) (Fault Overflow)) (le-ltb m (2 ^ 63) (omega arith))))

pub finish_zero : (p : Product) (zs : List ℤ) → p.has_zero ≡ true → StandsFor p zs → Value (pos 0) ≡ ranged (product zs)
finish_zero p zs e h = sym (ap ranged (product_is zs ∙ ap (λ z. unless_zero z (signed (sign_of zs) (size_of zs))) (sym h.zero_kept ∙ e)))

finish_signed : (p : Product) (zs : List ℤ) (s : Bool) → p.has_zero ≡ false → p.negative ≡ s → StandsFor p zs → ranged (signed s p.magnitude) ≡ ranged (product zs)
finish_signed p zs s e f h =
    ap (λ m. ranged (signed s m)) h.size_kept ∙ ranged_cap s (size_of zs) (positive_all zs)
    ∙ ap (λ b. ranged (signed b (size_of zs))) (sym f ∙ h.sign_kept)
    ∙ sym (ap ranged (product_is zs ∙ ap (λ z. unless_zero z (signed (sign_of zs) (size_of zs))) (sym h.zero_kept ∙ e)))

pub finish_negative : (p : Product) (zs : List ℤ) → p.has_zero ≡ false → p.negative ≡ true → StandsFor p zs → ranged (neg_ℤ (pos p.magnitude)) ≡ ranged (product zs)
finish_negative p zs e f h = finish_signed p zs true e f h

pub finish_positive : (p : Product) (zs : List ℤ) → p.has_zero ≡ false → p.negative ≡ false → StandsFor p zs → ranged (pos p.magnitude) ≡ ranged (product zs)
finish_positive p zs e f h = finish_signed p zs false e f h
