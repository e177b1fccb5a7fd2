-- Runs of numbers, and those of them that lie between two bounds.
use Rattle.std.proofs.Common.{◌≡◌, ◌⊎◌, inl, inr, ℕ, zero, suc, ◌+◌, ◌-◌, ◌≤◌, ℤ, pos, ◌+ℤ◌, ◌-ℤ◌, ◌≤ℤ◌, ◌<ℤ◌, nat_abs, int_le, List, [], ◌∷◌, ◌++◌, map, Bool, true, false, cond, Decides, refl, ap, sym, ◌∙◌, arith}
use Rattle.std.proofs.lemmas.Int.{ints, clamps, by_lt_z}
use Rattle.std.proofs.lemmas.Bool.Decides.{Decides-and}
use Rattle.std.proofs.lemmas.List.{append-nil}
use Rattle.std.specs.Int.{int_max, int_min}
use Rattle.std.specs.List.{range_with_len, filter}
use Rattle.arr_core.specs.Domains.{gap}
use Rattle.tile_columns.specs.Reaching.{lies, between, reached}

-- so many numbers from z on
abbrev pub run_from : ℤ → ℕ → List ℤ
run_from z zero = []
run_from z (suc n) = z ∷ run_from (z +ℤ pos 1) n

Decides-int_le : (a b : ℤ) → Decides (int_le a b) (a ≤ℤ b)
Decides-int_le a b = (λ h. grind (arith, ints), λ h. grind (arith, ints))

pub Decides-lies : (lo hi z : ℤ) → Decides (lies lo hi z) ((lo ≤ℤ z) × (z ≤ℤ hi))
Decides-lies lo hi z = Decides-and _ _ (Decides-int_le lo z) (Decides-int_le z hi)

not-decided : {P : Type 0} (b : Bool) → Decides b P → (P → ⊥) → b ≡ false
not-decided true d never = absurd (never (d.0 refl))
not-decided false d never = refl

lies-here : (lo hi z : ℤ) → lo ≤ℤ z → z ≤ℤ hi → lies lo hi z ≡ true
lies-here lo hi z a b = (Decides-lies lo hi z).1 (a, b)

not-below : (lo hi z : ℤ) → z <ℤ lo → lies lo hi z ≡ false
not-below lo hi z h = not-decided (lies lo hi z) (Decides-lies lo hi z) (λ (p : (lo ≤ℤ z) × (z ≤ℤ hi)). over p.0)
  where
    over : lo ≤ℤ z → ⊥
    over p = omega (arith, ints)

not-above : (lo hi z : ℤ) → hi <ℤ z → lies lo hi z ≡ false
not-above lo hi z h = not-decided (lies lo hi z) (Decides-lies lo hi z) (λ (p : (lo ≤ℤ z) × (z ≤ℤ hi)). over p.1)
  where
    over : z ≤ℤ hi → ⊥
    over p = omega (arith, ints)

-- numbers that are counted up are a run
pub counted_up : (lo : ℤ) (k n : ℕ) → map (λ i. lo +ℤ pos i) (range_with_len k n) ≡ run_from (lo +ℤ pos k) n
counted_up lo k zero = refl
counted_up lo k (suc n) =
    let e : lo +ℤ pos (k + 1) ≡ (lo +ℤ pos k) +ℤ pos 1 = omega (arith, ints) in
    ap (λ l. (lo +ℤ pos k) ∷ l) (counted_up lo (k + 1) n ∙ ap (λ z. run_from z n) e)

-- a run is a run, then another one
pub run_then : (z : ℤ) (a b : ℕ) → run_from z (a + b) ≡ run_from z a ++ run_from (z +ℤ pos a) b
run_then z zero b =
    let e : z ≡ z +ℤ pos 0 = omega (arith, ints) in
    let n : zero + b ≡ b = omega arith in
    ap (run_from z) n ∙ ap (λ y. run_from y b) e
run_then z (suc a) b =
    let e : (z +ℤ pos 1) +ℤ pos a ≡ z +ℤ pos (suc a) = omega (arith, ints) in
    let n : suc a + b ≡ suc (a + b) = omega arith in
    ap (run_from z) n ∙ ap (λ l. z ∷ l) (run_then (z +ℤ pos 1) a b ∙ ap (λ y. run_from (z +ℤ pos 1) a ++ run_from y b) e)

-- moved by a number
pub moved_run : (p z : ℤ) (n : ℕ) → map (λ u. p +ℤ u) (run_from z n) ≡ run_from (p +ℤ z) n
moved_run p z zero = refl
moved_run p z (suc n) =
    let e : p +ℤ (z +ℤ pos 1) ≡ (p +ℤ z) +ℤ pos 1 = omega (arith, ints) in
    ap (λ l. (p +ℤ z) ∷ l) (moved_run p (z +ℤ pos 1) n ∙ ap (λ y. run_from y n) e)

filter_then : (p : ℤ → Bool) (xs ys : List ℤ) → filter p (xs ++ ys) ≡ filter p xs ++ filter p ys
filter_then p [] ys = refl
filter_then p (x ∷ xs) ys = pick (p x) (filter_then p xs ys)
  where
    pick : (b : Bool) → filter p (xs ++ ys) ≡ filter p xs ++ filter p ys → cond b (x ∷ filter p (xs ++ ys)) (filter p (xs ++ ys)) ≡ cond b (x ∷ filter p xs) (filter p xs) ++ filter p ys
    pick true e = ap (λ l. x ∷ l) e
    pick false e = e

all_below : (lo hi z : ℤ) (n : ℕ) → (z +ℤ pos n) ≤ℤ lo → filter (lies lo hi) (run_from z n) ≡ []
all_below lo hi z zero h = refl
all_below lo hi z (suc n) h =
    ap (λ b. cond b (z ∷ filter (lies lo hi) (run_from (z +ℤ pos 1) n)) (filter (lies lo hi) (run_from (z +ℤ pos 1) n))) (not-below lo hi z (omega (arith, ints)))
    ∙ all_below lo hi (z +ℤ pos 1) n (omega (arith, ints))

all_above : (lo hi z : ℤ) (n : ℕ) → hi <ℤ z → filter (lies lo hi) (run_from z n) ≡ []
all_above lo hi z zero h = refl
all_above lo hi z (suc n) h =
    ap (λ b. cond b (z ∷ filter (lies lo hi) (run_from (z +ℤ pos 1) n)) (filter (lies lo hi) (run_from (z +ℤ pos 1) n))) (not-above lo hi z h)
    ∙ all_above lo hi (z +ℤ pos 1) n (omega (arith, ints))

all_lie : (lo hi z : ℤ) (n : ℕ) → lo ≤ℤ z → (z +ℤ pos n) ≤ℤ (hi +ℤ pos 1) → filter (lies lo hi) (run_from z n) ≡ run_from z n
all_lie lo hi z zero l h = refl
all_lie lo hi z (suc n) l h =
    ap (λ b. cond b (z ∷ filter (lies lo hi) (run_from (z +ℤ pos 1) n)) (filter (lies lo hi) (run_from (z +ℤ pos 1) n))) (lies-here lo hi z l (omega (arith, ints)))
    ∙ ap (λ l. z ∷ l) (all_lie lo hi (z +ℤ pos 1) n (omega (arith, ints)) (omega (arith, ints)))

-- those that lie between the bounds are a run, from `first` on
pub lying_run : (lo hi z first : ℤ) (n a m c : ℕ) → n ≡ a + (m + c) → first ≡ z +ℤ pos a → first ≤ℤ lo ⊎ (a ≡ 0) → lo ≤ℤ first → (first +ℤ pos m) ≤ℤ (hi +ℤ pos 1) → (hi <ℤ (first +ℤ pos m)) ⊎ (c ≡ 0)
    → filter (lies lo hi) (run_from z n) ≡ run_from first m
lying_run lo hi z first n a m c e f before l h after =
    ap (λ k. filter (lies lo hi) (run_from z k)) e
    ∙ ap (filter (lies lo hi)) (run_then z a (m + c))
    ∙ filter_then (lies lo hi) (run_from z a) (run_from (z +ℤ pos a) (m + c))
    ∙ ap (λ l. l ++ filter (lies lo hi) (run_from (z +ℤ pos a) (m + c))) (none before)
    ∙ ap (λ y. filter (lies lo hi) (run_from y (m + c))) (sym f)
    ∙ ap (filter (lies lo hi)) (run_then first m c)
    ∙ filter_then (lies lo hi) (run_from first m) (run_from (first +ℤ pos m) c)
    ∙ ap (λ l. l ++ filter (lies lo hi) (run_from (first +ℤ pos m) c)) (all_lie lo hi first m l h)
    ∙ ap (λ l. run_from first m ++ l) (rest after)
    ∙ append-nil (run_from first m)
  where
    none : first ≤ℤ lo ⊎ (a ≡ 0) → filter (lies lo hi) (run_from z a) ≡ []
    none (inl h) = all_below lo hi z a (omega (arith, ints))
    none (inr h) = ap (λ k. filter (lies lo hi) (run_from z k)) h

    rest : (hi <ℤ (first +ℤ pos m)) ⊎ (c ≡ 0) → filter (lies lo hi) (run_from (first +ℤ pos m) c) ≡ []
    rest (inl h) = all_above lo hi (first +ℤ pos m) c h
    rest (inr h) = ap (λ k. filter (lies lo hi) (run_from (first +ℤ pos m) k)) h

pub between_run : (lo hi : ℤ) → between lo hi ≡ run_from lo (gap lo hi + 1)
between_run lo hi =
    let e : lo +ℤ pos 0 ≡ lo = omega (arith, ints) in
    counted_up lo 0 (gap lo hi + 1) ∙ ap (λ z. run_from z (gap lo hi + 1)) e

reached_run : (ua ub lo hi p : ℤ) → reached ua ub lo hi p ≡ filter (lies lo hi) (run_from (p +ℤ ua) (gap ua ub + 1))
reached_run ua ub lo hi p = ap (λ l. filter (lies lo hi) (map (λ u. p +ℤ u) l)) (between_run ua ub) ∙ ap (filter (lies lo hi)) (moved_run p ua (gap ua ub + 1))

-- what is reached stands at a span of places
pub spanned : (ua ub lo hi p base : ℤ) (from to : ℕ) → ua ≤ℤ ub → from ≤ to → (base +ℤ pos from) ≡ int_max (p +ℤ ua) lo → (base +ℤ pos to) ≡ (int_min (p +ℤ ub) hi +ℤ pos 1)
    → reached ua ub lo hi p ≡ map (λ k. base +ℤ pos k) (range_with_len from (to - from))
spanned ua ub lo hi p base from to o le f t =
    let z = p +ℤ ua in
    let n = gap ua ub + 1 in
    let a = nat_abs ((base +ℤ pos from) -ℤ z) in
    let m = to - from in
    let c = n - (a + m) in
    reached_run ua ub lo hi p
    ∙ lying_run lo hi z (base +ℤ pos from) n a m c (omega (arith, ints, clamps, f, t)) (omega (arith, ints, clamps, f, t))
    (by_lt_z z lo (λ l. inl (omega (arith, ints, clamps, f, t))) (λ l. inr (omega (arith, ints, clamps, f, t))))
    (omega (arith, ints, clamps, f, t))
    (omega (arith, ints, clamps, f, t))
    (by_lt_z hi (p +ℤ ub) (λ l. inl (omega (arith, ints, clamps, f, t))) (λ l. inr (omega (arith, ints, clamps, f, t))))
    ∙ sym (counted_up base from m)

-- nothing is reached
pub spanned_none : (ua ub lo hi p : ℤ) → ua ≤ℤ ub → lo ≤ℤ hi → int_min (p +ℤ ub) hi <ℤ int_max (p +ℤ ua) lo → reached ua ub lo hi p ≡ []
spanned_none ua ub lo hi p o l lt =
    reached_run ua ub lo hi p
    ∙ by_lt_z (p +ℤ ub) lo (λ h. all_below lo hi (p +ℤ ua) (gap ua ub + 1) (omega (arith, ints))) (λ h. all_above lo hi (p +ℤ ua) (gap ua ub + 1) (omega (arith, ints, clamps)))
