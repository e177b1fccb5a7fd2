-- Vectors of two lanes.
use Rattle.std.proofs.Common.{◌≡◌, ℕ, ◌+◌, ◌-◌, ◌%◌, ◌^◌, ◌<◌, ◌≤◌, arith, ℤ, pos, ◌≤ℤ◌, List, [], ◌∷◌, length, get_or, map, refl, sym, ap, ◌∙◌, subst, w64, to_z, of_z, SFits, Fits, bit_and, bit_or, cond, Bool, true, false, ◌&&◌, ◌||◌, int_lt, int_le, below_more}
use lib.Bits.{bit_xor}
use lib.Lanes.{zip2, put_chunk, sel_l, top, fold_l}
use Rattle.std.specs.Int.Signed.{lt_z, le_z}
use Rattle.std.proofs.Math.Facts.{sfits_to_z, sfits_lit}
use Rattle.std.proofs.lemmas.Int.{to_z-of_z}
use Rattle.std.proofs.lemmas.Nat.{xor_lt, or_lt}
use Rattle.std.proofs.lemmas.Simd.{get_or-put_chunk_below, get_or-put_chunk_at}
use Rattle.wcps_text.specs.declared.operator.BinaryOperator.TheVariants.{Add, Subtract}
use Rattle.wcps_mean.specs.declared.cell.Outcome.{Outcome}
use Rattle.wcps_mean.specs.declared.cell.Outcome.TheVariants.{Value}
use Rattle.arr_core.specs.Cells.{truth_of}
use Rattle.wcps_mean.specs.Cells.{number, truth, differ, exact2}
use Rattle.tile_kernel.specs.Columns.{exact_at, AreValues}
use Rattle.tile_kernel.specs.Lanes.{first, second, IsPair, AreAt, AreEach, AreSure, AreTried, GoesOn}
use Rattle.tile_kernel.proofs.Signs.{below_64, mask_below, or_left, or_right, sum_kept, difference_kept}
use Rattle.tile_kernel.proofs.Results.{ranged_same}

-- ---- by the lanes

pair_cases : (P : List ℤ → Type 0) → ((a b : ℤ) → SFits w64 a → SFits w64 b → P (a ∷ b ∷ [])) → (xs : List ℤ) → IsPair xs → P xs
pair_cases P f [] h = absurd (omega (arith, h.two))
pair_cases P f (a ∷ []) h = absurd (omega (arith, h.two))
pair_cases P f (a ∷ b ∷ []) h = f a b h.first_fits h.second_fits
pair_cases P f (a ∷ b ∷ c ∷ xs) h = absurd (omega (arith, h.two))

by_lanes : (P : List ℤ → List ℤ → Type 0) → ((a b c d : ℤ) → SFits w64 a → SFits w64 b → SFits w64 c → SFits w64 d → P (a ∷ b ∷ []) (c ∷ d ∷ [])) → (xs ys : List ℤ) → IsPair xs → IsPair ys → P xs ys
by_lanes P f xs ys h g = pair_cases (λ xs. P xs ys) (λ a b p q. pair_cases (λ ys. P (a ∷ b ∷ []) ys) (λ c d r s. f a b c d p q r s) ys g) xs h

made : (m n : ℕ) → m < 2 ^ 64 → n < 2 ^ 64 → IsPair (to_z w64 m ∷ to_z w64 n ∷ [])
made m n f g =
    let a : Fits w64 m = record { fits = f } in
    let b : Fits w64 n = record { fits = g } in
    record { two = refl; first_fits = sfits_to_z a; second_fits = sfits_to_z b }

-- ---- vectors that were passed on

pub again : (xs : List ℤ) → IsPair xs → map (to_z w64) (map (of_z w64) xs) ≡ xs
again = pair_cases (λ xs. map (to_z w64) (map (of_z w64) xs) ≡ xs) (λ a b p q. ap (λ z. z ∷ to_z w64 (of_z w64 b) ∷ []) (to_z-of_z w64 a p) ∙ ap (λ z. a ∷ z ∷ []) (to_z-of_z w64 b q))

pub pair_again : (xs : List ℤ) → IsPair xs → IsPair (map (to_z w64) (map (of_z w64) xs))
pair_again xs h = subst IsPair (sym (again xs h)) h

pub sure_before : (xs : List ℤ) → IsPair xs → AreSure (map (to_z w64) (map (of_z w64) xs)) → AreSure xs
sure_before xs h s = subst AreSure (again xs h) s

-- ---- an operation of two vectors

pub pair_of : (f : ℕ → ℕ → ℕ) → ((a b : ℕ) → a < 2 ^ 64 → b < 2 ^ 64 → f a b < 2 ^ 64) → (xs ys : List ℤ) → IsPair xs → IsPair ys → IsPair (map (to_z w64) (zip2 f (map (of_z w64) xs) (map (of_z w64) ys)))
pair_of f k = by_lanes (λ xs ys. IsPair (map (to_z w64) (zip2 f (map (of_z w64) xs) (map (of_z w64) ys))))
    (λ a b c d p q r s. made (f (of_z w64 a) (of_z w64 c)) (f (of_z w64 b) (of_z w64 d)) (k _ _ (below_64 a p) (below_64 c r)) (k _ _ (below_64 b q) (below_64 d s)))

pub or_pair : (xs ys : List ℤ) → IsPair xs → IsPair ys → IsPair (map (to_z w64) (zip2 bit_or (map (of_z w64) xs) (map (of_z w64) ys)))
or_pair = pair_of bit_or (or_lt 64)

pub and_pair : (xs ys : List ℤ) → IsPair xs → IsPair ys → IsPair (map (to_z w64) (zip2 bit_and (map (of_z w64) xs) (map (of_z w64) ys)))
and_pair = pair_of bit_and (λ a b f g. mask_below a b f)

pub xor_pair : (xs ys : List ℤ) → IsPair xs → IsPair ys → IsPair (map (to_z w64) (zip2 bit_xor (map (of_z w64) xs) (map (of_z w64) ys)))
xor_pair = pair_of bit_xor (xor_lt 64)

-- ---- marks that are joined

pub sure_left : (xs ys : List ℤ) → IsPair xs → IsPair ys → AreSure (map (to_z w64) (zip2 bit_or (map (of_z w64) xs) (map (of_z w64) ys))) → AreSure xs
sure_left = by_lanes (λ xs ys. AreSure (map (to_z w64) (zip2 bit_or (map (of_z w64) xs) (map (of_z w64) ys))) → AreSure xs)
    (λ a b c d p q r s h. record {
      here = subst (λ z. pos 0 ≤ℤ z) (to_z-of_z w64 a p) (or_left (of_z w64 a) (of_z w64 c) (below_64 a p) (below_64 c r) h.here);
      next = subst (λ z. pos 0 ≤ℤ z) (to_z-of_z w64 b q) (or_left (of_z w64 b) (of_z w64 d) (below_64 b q) (below_64 d s) h.next);
    })

pub sure_right : (xs ys : List ℤ) → IsPair xs → IsPair ys → AreSure (map (to_z w64) (zip2 bit_or (map (of_z w64) xs) (map (of_z w64) ys))) → AreSure ys
sure_right = by_lanes (λ xs ys. AreSure (map (to_z w64) (zip2 bit_or (map (of_z w64) xs) (map (of_z w64) ys))) → AreSure ys)
    (λ a b c d p q r s h. record {
      here = or_right (of_z w64 a) c (below_64 a p) r h.here;
      next = or_right (of_z w64 b) d (below_64 b q) s h.next;
    })

pub sure_of_joined : (xs : List ℤ) → IsPair xs → pos 0 ≤ℤ to_z w64 (fold_l bit_or 0 (map (of_z w64) xs)) → AreSure xs
sure_of_joined = pair_cases (λ xs. pos 0 ≤ℤ to_z w64 (fold_l bit_or 0 (map (of_z w64) xs)) → AreSure xs)
    (λ a b p q h.
    let none : 0 < 2 ^ 64 = omega arith in
    let front : bit_or 0 (of_z w64 a) < 2 ^ 64 = or_lt 64 0 (of_z w64 a) none (below_64 a p) in
    record {
      here = or_right 0 a none p (or_left (bit_or 0 (of_z w64 a)) (of_z w64 b) front (below_64 b q) h);
      next = or_right (bit_or 0 (of_z w64 a)) b front q h;
    })

-- ---- sums and differences

abbrev sums : List ℤ → List ℤ → List ℕ
sums xs ys = zip2 (λ m n. (m + n) % 2 ^ 64) (map (of_z w64) xs) (map (of_z w64) ys)

abbrev sum_marks : List ℤ → List ℤ → List ℤ
sum_marks xs ys = map (to_z w64) (zip2 bit_and (zip2 bit_xor (map (of_z w64) xs) (sums xs ys)) (zip2 bit_xor (map (of_z w64) ys) (sums xs ys)))

abbrev differences : List ℤ → List ℤ → List ℕ
differences xs ys = zip2 (λ m n. (m + (2 ^ 64 - n)) % 2 ^ 64) (map (of_z w64) xs) (map (of_z w64) ys)

abbrev difference_marks : List ℤ → List ℤ → List ℤ
difference_marks xs ys = map (to_z w64) (zip2 bit_and (zip2 bit_xor (map (of_z w64) xs) (map (of_z w64) ys)) (zip2 bit_xor (map (of_z w64) xs) (differences xs ys)))

remainder_fits : (m : ℕ) → m % 2 ^ 64 < 2 ^ 64
remainder_fits m = omega arith

pub sums_pair : (xs ys : List ℤ) → IsPair xs → IsPair ys → IsPair (map (to_z w64) (sums xs ys))
sums_pair = pair_of (λ m n. (m + n) % 2 ^ 64) (λ a b f g. remainder_fits (a + b))

pub differences_pair : (xs ys : List ℤ) → IsPair xs → IsPair ys → IsPair (map (to_z w64) (differences xs ys))
differences_pair = pair_of (λ m n. (m + (2 ^ 64 - n)) % 2 ^ 64) (λ a b f g. remainder_fits (a + (2 ^ 64 - b)))

mark_fits : (m n s : ℕ) → m < 2 ^ 64 → s < 2 ^ 64 → bit_and (bit_xor m s) n < 2 ^ 64
mark_fits m n s f g = mask_below (bit_xor m s) n (xor_lt 64 m s f g)

pub sum_marks_pair : (xs ys : List ℤ) → IsPair xs → IsPair ys → IsPair (sum_marks xs ys)
sum_marks_pair = by_lanes (λ xs ys. IsPair (sum_marks xs ys))
    (λ a b c d p q r s. made _ _ (mark_fits (of_z w64 a) _ _ (below_64 a p) (remainder_fits (of_z w64 a + of_z w64 c))) (mark_fits (of_z w64 b) _ _ (below_64 b q) (remainder_fits (of_z w64 b + of_z w64 d))))

pub difference_marks_pair : (xs ys : List ℤ) → IsPair xs → IsPair ys → IsPair (difference_marks xs ys)
difference_marks_pair = by_lanes (λ xs ys. IsPair (difference_marks xs ys))
    (λ a b c d p q r s. made _ _ (mark_fits (of_z w64 a) _ _ (below_64 a p) (below_64 c r)) (mark_fits (of_z w64 b) _ _ (below_64 b q) (below_64 d s)))

signed_fits : (m : ℕ) → SFits w64 (to_z w64 (m % 2 ^ 64))
signed_fits m = let f : Fits w64 (m % 2 ^ 64) = record { fits = remainder_fits m } in sfits_to_z f

pub sums_tried : (xs ys : List ℤ) → IsPair xs → IsPair ys → AreTried (exact2 Add) xs ys (map (to_z w64) (sums xs ys)) (sum_marks xs ys)
sums_tried = by_lanes (λ xs ys. AreTried (exact2 Add) xs ys (map (to_z w64) (sums xs ys)) (sum_marks xs ys))
    (λ a b c d p q r s. record {
      here = λ h. ranged_same _ _ (sum_kept a c _ p r refl h) (signed_fits (of_z w64 a + of_z w64 c));
      next = λ h. ranged_same _ _ (sum_kept b d _ q s refl h) (signed_fits (of_z w64 b + of_z w64 d));
    })

pub differences_tried : (xs ys : List ℤ) → IsPair xs → IsPair ys → AreTried (exact2 Subtract) xs ys (map (to_z w64) (differences xs ys)) (difference_marks xs ys)
differences_tried = by_lanes (λ xs ys. AreTried (exact2 Subtract) xs ys (map (to_z w64) (differences xs ys)) (difference_marks xs ys))
    (λ a b c d p q r s. record {
      here = λ h. ranged_same _ _ (difference_kept a c _ p r refl h) (signed_fits (of_z w64 a + (2 ^ 64 - of_z w64 c)));
      next = λ h. ranged_same _ _ (difference_kept b d _ q s refl h) (signed_fits (of_z w64 b + (2 ^ 64 - of_z w64 d)));
    })

-- ---- comparisons, as 1 and 0

abbrev chosen : (ℕ → ℕ → Bool) → List ℤ → List ℤ → List ℤ
chosen t xs ys = map (to_z w64) (sel_l (map (top 63) (zip2 (λ m n. cond (t m n) (2 ^ 64 - 1) 0) (map (of_z w64) xs) (map (of_z w64) ys))) (1 ∷ 1 ∷ []) (0 ∷ 0 ∷ []))

chosen_lane : (c : Bool) → to_z w64 (cond (top 63 (cond c (2 ^ 64 - 1) 0)) 1 0) ≡ number c
chosen_lane true = refl
chosen_lane false = refl

number_fits : (c : Bool) → SFits w64 (number c)
number_fits true = sfits_lit tt
number_fits false = sfits_lit tt

chosen_fits : (c : Bool) → SFits w64 (to_z w64 (cond (top 63 (cond c (2 ^ 64 - 1) 0)) 1 0))
chosen_fits c = subst (SFits w64) (sym (chosen_lane c)) (number_fits c)

pub chosen_pair : (t : ℕ → ℕ → Bool) (xs ys : List ℤ) → IsPair xs → IsPair ys → IsPair (chosen t xs ys)
chosen_pair t = by_lanes (λ xs ys. IsPair (chosen t xs ys))
    (λ a b c d p q r s. record { two = refl; first_fits = chosen_fits (t (of_z w64 a) (of_z w64 c)); second_fits = chosen_fits (t (of_z w64 b) (of_z w64 d)) })

pub zeros_pair : IsPair (pos 0 ∷ pos 0 ∷ [])
zeros_pair = record { two = refl; first_fits = sfits_lit tt; second_fits = sfits_lit tt }

chosen_tried : (t : ℕ → ℕ → Bool) (f : ℤ → ℤ → Bool) → ((x y : ℤ) → SFits w64 x → SFits w64 y → t (of_z w64 x) (of_z w64 y) ≡ f x y) → (xs ys : List ℤ) → IsPair xs → IsPair ys → AreTried (λ x y. truth (f x y)) xs ys (chosen t xs ys) (pos 0 ∷ pos 0 ∷ [])
chosen_tried t f e = by_lanes (λ xs ys. AreTried (λ x y. truth (f x y)) xs ys (chosen t xs ys) (pos 0 ∷ pos 0 ∷ []))
    (λ a b c d p q r s. record {
      here = λ h. ap Value (sym (chosen_lane (t (of_z w64 a) (of_z w64 c)) ∙ ap number (e a c p r)));
      next = λ h. ap Value (sym (chosen_lane (t (of_z w64 b) (of_z w64 d)) ∙ ap number (e b d q s)));
    })

pub less_tried : (xs ys : List ℤ) → IsPair xs → IsPair ys → AreTried (λ x y. truth (int_lt x y)) xs ys (chosen (λ m n. lt_z (to_z w64 m) (to_z w64 n)) xs ys) (pos 0 ∷ pos 0 ∷ [])
less_tried = chosen_tried (λ m n. lt_z (to_z w64 m) (to_z w64 n)) int_lt
    (λ x y f g. ap (λ z. lt_z z (to_z w64 (of_z w64 y))) (to_z-of_z w64 x f) ∙ ap (lt_z x) (to_z-of_z w64 y g))

pub at_most_tried : (xs ys : List ℤ) → IsPair xs → IsPair ys → AreTried (λ x y. truth (int_le x y)) xs ys (chosen (λ m n. le_z (to_z w64 m) (to_z w64 n)) xs ys) (pos 0 ∷ pos 0 ∷ [])
at_most_tried = chosen_tried (λ m n. le_z (to_z w64 m) (to_z w64 n)) int_le
    (λ x y f g. ap (λ z. le_z z (to_z w64 (of_z w64 y))) (to_z-of_z w64 x f) ∙ ap (le_z x) (to_z-of_z w64 y g))

-- the operands exchanged
pub turned : (exact : ℤ → ℤ → Outcome) (xs ys values marks : List ℤ) → IsPair xs → IsPair ys → AreTried exact (map (to_z w64) (map (of_z w64) ys)) (map (to_z w64) (map (of_z w64) xs)) values marks → AreTried (λ x y. exact y x) xs ys values marks
turned exact xs ys values marks h g t =
    let u : AreTried exact ys xs values marks = subst (λ l. AreTried exact l xs values marks) (again ys g) (subst (λ l. AreTried exact (map (to_z w64) (map (of_z w64) ys)) l values marks) (again xs h) t) in
    record { here = u.here; next = u.next }

-- ---- logic of truth values

logic_lane : (f : ℕ → ℕ → ℕ) (b : Bool → Bool → Bool) → ((p q : Bool) → to_z w64 (f (of_z w64 (number p)) (of_z w64 (number q))) ≡ number (b p q)) → (x y u v : ℤ) → u ≡ number (truth_of x) → v ≡ number (truth_of y) → truth (b (truth_of x) (truth_of y)) ≡ Value (to_z w64 (f (of_z w64 u) (of_z w64 v)))
logic_lane f b law x y u v h g =
    ap Value (sym (ap (λ z. to_z w64 (f (of_z w64 z) (of_z w64 v))) h ∙ ap (λ z. to_z w64 (f (of_z w64 (number (truth_of x))) (of_z w64 z))) g ∙ law (truth_of x) (truth_of y)))

pub logic_tried : (f : ℕ → ℕ → ℕ) (b : Bool → Bool → Bool) → ((p q : Bool) → to_z w64 (f (of_z w64 (number p)) (of_z w64 (number q))) ≡ number (b p q)) → (xs ys us vs : List ℤ) → IsPair xs → IsPair ys → IsPair us → IsPair vs
    → AreEach (λ z. number (truth_of z)) (map (to_z w64) (map (of_z w64) xs)) us → AreEach (λ z. number (truth_of z)) (map (to_z w64) (map (of_z w64) ys)) vs
    → AreTried (λ x y. truth (b (truth_of x) (truth_of y))) xs ys (map (to_z w64) (zip2 f (map (of_z w64) us) (map (of_z w64) vs))) (pos 0 ∷ pos 0 ∷ [])
logic_tried f b law xs ys us vs h g i j p q =
    let k : AreEach (λ z. number (truth_of z)) xs us = subst (λ l. AreEach (λ z. number (truth_of z)) l us) (again xs h) p in
    let l : AreEach (λ z. number (truth_of z)) ys vs = subst (λ l. AreEach (λ z. number (truth_of z)) l vs) (again ys g) q in
    by_lanes (λ us vs. AreEach (λ z. number (truth_of z)) xs us → AreEach (λ z. number (truth_of z)) ys vs → AreTried (λ x y. truth (b (truth_of x) (truth_of y))) xs ys (map (to_z w64) (zip2 f (map (of_z w64) us) (map (of_z w64) vs))) (pos 0 ∷ pos 0 ∷ []))
    (λ a b' c d _ _ _ _ m n. record {
      here = λ _. logic_lane f b law (first xs) (first ys) a c m.here n.here;
      next = λ _. logic_lane f b law (second xs) (second ys) b' d m.next n.next;
    }) us vs i j k l

-- ---- two places more

pub two_more : (e : ℕ → Outcome) (out vs : List ℤ) (place : ℕ) → IsPair vs → place + 2 ≤ length out → AreValues place e out → e place ≡ Value (first vs) → e (place + 1) ≡ Value (second vs) → AreValues (place + 2) e (put_chunk place out vs)
two_more e out vs place h room before here next =
    let fit : place + length vs ≤ length out = omega (arith, h.two) in
    let zero_there : 0 < length vs = omega (arith, h.two) in
    let one_there : 1 < length vs = omega (arith, h.two) in
    let same : place + 0 ≡ place = omega arith in
    let at_here : e place ≡ Value (get_or (put_chunk place out vs) place (pos 0)) = here ∙ ap Value (sym (get_or-put_chunk_at place out vs 0 (pos 0) zero_there fit)) ∙ ap (λ i. Value (get_or (put_chunk place out vs) i (pos 0))) same in
    λ k l. below_more (λ k. e k ≡ Value (get_or (put_chunk place out vs) k (pos 0))) (place + 1)
    (below_more (λ k. e k ≡ Value (get_or (put_chunk place out vs) k (pos 0))) place
    (λ k l. before k l ∙ ap Value (sym (get_or-put_chunk_below place out vs k (pos 0) l)))
    at_here)
    (next ∙ ap Value (sym (get_or-put_chunk_at place out vs 1 (pos 0) one_there fit))) k (omega arith)

pub tried_there : (exact : ℤ → ℤ → Outcome) (l r : ℕ → ℤ) (place : ℕ) (xs ys vs ms : List ℤ) → IsPair xs → IsPair ys → AreAt l place xs → AreAt r place ys
    → AreTried exact (map (to_z w64) (map (of_z w64) xs)) (map (to_z w64) (map (of_z w64) ys)) vs ms → AreSure ms
    → (exact (l place) (r place) ≡ Value (first vs)) × (exact (l (place + 1)) (r (place + 1)) ≡ Value (second vs))
tried_there exact l r place xs ys vs ms h g p q t s =
    let u : AreTried exact xs ys vs ms = subst (λ l. AreTried exact l ys vs ms) (again xs h) (subst (λ l. AreTried exact (map (to_z w64) (map (of_z w64) xs)) l vs ms) (again ys g) t) in (
      ap (λ z. exact z (r place)) (sym p.here) ∙ ap (exact (first xs)) (sym q.here) ∙ u.here s.here,
      ap (λ z. exact z (r (place + 1))) (sym p.next) ∙ ap (exact (second xs)) (sym q.next) ∙ u.next s.next,
    )

-- a trial in two lanes goes on by two places
pub goes_on : (exact : ℤ → ℤ → Outcome) (l r : ℕ → ℤ) (place : ℕ) (out xs ys vs before ms : List ℤ) → place + 2 ≤ length out → IsPair xs → IsPair ys → IsPair vs → IsPair before → IsPair ms → AreAt l place xs → AreAt r place ys
    → AreTried exact (map (to_z w64) (map (of_z w64) xs)) (map (to_z w64) (map (of_z w64) ys)) vs ms
    → GoesOn 2 (exact_at exact l r) place before out (map (to_z w64) (zip2 bit_or (map (of_z w64) before) (map (of_z w64) ms))) (put_chunk place out (map (to_z w64) (map (of_z w64) vs)))
goes_on exact l r place out xs ys vs before ms room h g v b m p q t kept sure =
    let there = tried_there exact l r place xs ys vs ms h g p q t (sure_right before ms b m sure) in
    subst (λ w. AreValues (place + 2) (λ k. exact (l k) (r k)) (put_chunk place out w)) (sym (again vs v))
    (two_more (λ k. exact (l k) (r k)) out vs place v room (kept (sure_left before ms b m sure)) there.0 there.1)

-- ---- laws of the bits of truth values

pub and_law : (p q : Bool) → to_z w64 (bit_and (of_z w64 (number p)) (of_z w64 (number q))) ≡ number (p && q)
and_law true true = refl
and_law true false = refl
and_law false true = refl
and_law false false = refl

pub or_law : (p q : Bool) → to_z w64 (bit_or (of_z w64 (number p)) (of_z w64 (number q))) ≡ number (p || q)
or_law true true = refl
or_law true false = refl
or_law false true = refl
or_law false false = refl

pub xor_law : (p q : Bool) → to_z w64 (bit_xor (of_z w64 (number p)) (of_z w64 (number q))) ≡ number (differ p q)
xor_law true true = refl
xor_law true false = refl
xor_law false true = refl
xor_law false false = refl
