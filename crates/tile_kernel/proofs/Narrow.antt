-- Values that fit 32 bits.
use Rattle.std.proofs.Common.{◌≡◌, ℕ, zero, suc, ◌+◌, ◌*◌, ◌<◌, ◌≤◌, ◌^◌, unsigned_abs, arith, ℤ, pos, negsuc, ◌+ℤ◌, ◌*ℤ◌, ◌≤ℤ◌, ◌≢◌, List, length, get_or, set, max, below_more, get_or-set_other, get_or-set_same, ap, sym, refl, ◌∙◌, subst, w64, to_z, of_z, FitsSigned, SFits, Bool, true, false}
use Rattle.std.specs.Prelude.{neg_ℤ, int_div}
use Rattle.std.specs.Int.{w32}
use Rattle.std.proofs.Math.Nat.{mul-le-mul}
use Rattle.std.proofs.lemmas.Int.{ints, fits_signed_from_abs, unsigned_abs-mul, to_z-of_z, quot_fits}
use Rattle.wcps_mean.specs.declared.cell.Outcome.{Outcome}
use Rattle.wcps_mean.specs.declared.cell.Outcome.TheVariants.{Value}
use Rattle.wcps_mean.specs.Cells.{ranged, quotient, number, truth}
use Rattle.tile_kernel.specs.Columns.{exact_at}
use Rattle.tile_kernel.specs.Narrow.{IsNarrowOf, AreNarrowOf, AreWithin, IsBound, IsWritten}
use Rattle.tile_kernel.specs.Tried.{IsTried}
use Rattle.tile_kernel.specs.declared.narrow_loops.Bounds.{Bounds}
use Rattle.tile_kernel.proofs.Results.{ranged_fits, fits_wide}

-- ---- results that fit

number_fits : (b : Bool) → FitsSigned w32 (number b)
number_fits true = fits_signed_from_abs w32 (pos 1) (omega arith)
number_fits false = fits_signed_from_abs w32 (pos 0) (omega arith)

pub truth_fits : (b : Bool) → (v : ℤ) × FitsSigned w32 v × (truth b ≡ Value v)
truth_fits b = (number b, number_fits b, refl)

pub quotient_fits : (x d : ℤ) → FitsSigned w32 x → pos 1 ≤ℤ d → (v : ℤ) × FitsSigned w32 v × (quotient x d ≡ Value v)
quotient_fits x (pos zero) f h = absurd (omega (arith, ints, h))
quotient_fits x (pos (suc n)) f h =
    let g = quot_fits w32 x (pos (suc n)) f (omega (arith, ints)) in
    (int_div x (pos (suc n)), g, ranged_fits (int_div x (pos (suc n))) (fits_wide (int_div x (pos (suc n))) g))
quotient_fits x (negsuc n) f h = absurd (omega (arith, ints, h))

-- ---- bounds of results

wide : (z : ℤ) → unsigned_abs z ≤ 2 ^ 62 → SFits w64 z
wide z h = fits_signed_from_abs w64 z (omega (arith, h))

pub product_within : (x y : ℤ) (a b : ℕ) → unsigned_abs x ≤ a → unsigned_abs y ≤ b → a ≤ 2 ^ 31 → b ≤ 2 ^ 31 → (v : ℤ) × (unsigned_abs v ≤ a * b) × (ranged (x *ℤ y) ≡ Value v)
product_within x y a b p q c d =
    let m : unsigned_abs (x *ℤ y) ≡ unsigned_abs x * unsigned_abs y = unsigned_abs-mul x y in
    let n = mul-le-mul p q in
    let far = mul-le-mul c d in
    (x *ℤ y, omega (arith, m, n), ranged_fits (x *ℤ y) (wide (x *ℤ y) (omega (arith, m, n, far))))

-- a value within 31 bits fits 32
pub within_fits : (v : ℤ) (bound : ℕ) → unsigned_abs v ≤ bound → bound ≤ 2147483647 → FitsSigned w32 v
within_fits v bound h l = fits_signed_from_abs w32 v (omega (arith, h, l))

-- a result at operands that were read
pub narrow_result : (exact : ℤ → ℤ → Outcome) (a b x y r : ℤ) → SFits w32 a → SFits w32 b → SFits w32 r → a ≡ x → b ≡ y
    → ((v : ℤ) → FitsSigned w32 v → exact (to_z w32 (of_z w32 a)) (to_z w32 (of_z w32 b)) ≡ Value v → r ≡ v)
    → (FitsSigned w32 x → FitsSigned w32 y → (v : ℤ) × FitsSigned w32 v × (exact x y ≡ Value v))
    → exact x y ≡ Value (to_z w32 (of_z w32 r))
narrow_result exact a b x y r f g h p q is there =
    let t = there (subst (SFits w32) p f) (subst (SFits w32) q g) in
    let same : exact (to_z w32 (of_z w32 a)) (to_z w32 (of_z w32 b)) ≡ exact x y =
    ap (λ z. exact z (to_z w32 (of_z w32 b))) (to_z-of_z w32 a f ∙ p) ∙ ap (exact x) (to_z-of_z w32 b g ∙ q) in
    t.2 ∙ ap Value (sym (is t.0 t.1 (same ∙ t.2)) ∙ sym (to_z-of_z w32 r h))

-- ---- results that were tried

-- a bound of one magnitude more
pub bound_more : (n : ℕ) (value : ℕ → ℤ) (b m : ℕ) (x : ℤ) → IsBound n value b → SFits w32 x → x ≡ value n → m ≡ unsigned_abs (to_z w32 (of_z w32 x)) → IsBound (n + 1) value (max b m)
bound_more n value b m x before f is e k l =
    let here : unsigned_abs (value n) ≡ m = ap unsigned_abs (sym is ∙ sym (to_z-of_z w32 x f)) ∙ sym e in
    below_more (λ k. unsigned_abs (value k) ≤ max b m) n (λ k l. let h = before k l in omega (arith, h)) (omega (arith, here)) k l

-- a result at operands that were read, if it fits
pub narrow_read : (exact : ℤ → ℤ → Outcome) (a b x y r : ℤ) → SFits w32 a → SFits w32 b → SFits w32 r → a ≡ x → b ≡ y
    → IsNarrowOf (exact (to_z w32 (of_z w32 a)) (to_z w32 (of_z w32 b))) r → IsNarrowOf (exact x y) (to_z w32 (of_z w32 r))
narrow_read exact a b x y r f g h p q is v fits e =
    let same : exact (to_z w32 (of_z w32 a)) (to_z w32 (of_z w32 b)) ≡ exact x y =
    ap (λ z. exact z (to_z w32 (of_z w32 b))) (to_z-of_z w32 a f ∙ p) ∙ ap (exact x) (to_z-of_z w32 b g ∙ q) in
    to_z-of_z w32 r h ∙ is v fits (same ∙ e)

-- one more result
pub tried_more : (e : ℕ → Outcome) (out : List ℤ) (place : ℕ) (v : ℤ) → place < length out → AreNarrowOf place e out → IsNarrowOf (e place) v → AreNarrowOf (place + 1) e (set out place v)
tried_more e out place v lt before here k l =
    below_more (λ k. IsNarrowOf (e k) (get_or (set out place v) k (pos 0))) place
    (λ k l. let ne : k ≢ place = omega arith in λ w f h. get_or-set_other out place k v (pos 0) ne ∙ before k l w f h)
    (λ w f h. get_or-set_same out place v (pos 0) lt ∙ here w f h)
    k l

-- results within a bound, where that fits
pub tried_written : (told : Bool) (n : ℕ) (exact : ℤ → ℤ → Outcome) (left right : ℕ → ℤ) (bounds : Bounds) (bound : ℕ) (before after : List ℤ) → length before ≤ length after → IsTried n exact left right after bounds → (told ≡ true → bound ≤ 2147483647)
    → AreWithin bound n (exact_at exact left right) → IsWritten told n (exact_at exact left right) before after
tried_written told n exact left right bounds bound before after kept tried small within = record {
  kept = kept;
  room = λ t. tried.room;
  values = λ t k lt. let v = within k lt in v.2 ∙ ap Value (sym (tried.values k lt v.0 (within_fits v.0 bound v.1 (small t)) v.2));
}

-- the same values of outcomes that are told in another way
pub written_as : (told : Bool) (m n : ℕ) (e f : ℕ → Outcome) (before after : List ℤ) → n ≡ m → ((k : ℕ) → k < n → f k ≡ e k) → IsWritten told m e before after → IsWritten told n f before after
written_as told m n e f before after s h w = record { kept = w.kept; room = λ t. omega (arith, s, w.room t); values = λ t k lt. h k lt ∙ w.values t k (omega (arith, s, lt)) }

-- ---- a sum with one more value of 32 bits

least_narrow : (x : ℤ) → SFits w32 x → neg_ℤ (pos (2 ^ 31)) ≤ℤ x
least_narrow (pos n) f = omega (arith, ints)
least_narrow (negsuc n) f = omega (arith, ints, f.sfits)

greatest_narrow : (x : ℤ) → SFits w32 x → (x +ℤ pos 1) ≤ℤ pos (2 ^ 31)
greatest_narrow (pos n) f = omega (arith, ints, f.sfits)
greatest_narrow (negsuc n) f = omega (arith, ints)

pub sum_below : (t x : ℤ) (k : ℕ) → SFits w32 x → neg_ℤ (pos (k * 2 ^ 31)) ≤ℤ t → neg_ℤ (pos ((k + 1) * 2 ^ 31)) ≤ℤ (t +ℤ x)
sum_below t x k f b = let l = least_narrow x f in omega (arith, ints, l, b)

pub sum_above : (t x : ℤ) (k : ℕ) → SFits w32 x → (t +ℤ pos k) ≤ℤ pos (k * 2 ^ 31) → ((t +ℤ x) +ℤ pos (k + 1)) ≤ℤ pos ((k + 1) * 2 ^ 31)
sum_above t x k f a = let g = greatest_narrow x f in omega (arith, ints, g, a)

pub sum_fits : (t x : ℤ) (k : ℕ) → k < 4096 → SFits w32 x → neg_ℤ (pos (k * 2 ^ 31)) ≤ℤ t → (t +ℤ pos k) ≤ℤ pos (k * 2 ^ 31) → SFits w64 (t +ℤ x)
sum_fits t x k few f b a =
    let l = sum_below t x k f b in
    let g = sum_above t x k f a in
    fits_signed_from_abs w64 (t +ℤ x) (omega (arith, ints, l, g, few))
