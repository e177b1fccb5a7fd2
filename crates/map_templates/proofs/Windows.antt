-- Runs of consecutive integers: the offsets of a window that stay on an axis reach the coordinates near the centre.
use Rattle.std.proofs.Common.{◌≡◌, ℕ, zero, suc, ◌+◌, ◌≤◌, ℤ, pos, negsuc, ◌+ℤ◌, ◌-ℤ◌, ◌≤ℤ◌, ◌<ℤ◌, nat_abs, int_le, int_lt, nat_le, List, [], ◌∷◌, map, filter, Bool, true, false, ◌&&◌, Decides, refl, ap, sym, ◌∙◌, subst, arith}
use Rattle.std.proofs.lemmas.Int.{ints, by_lt_z}
use Rattle.std.proofs.lemmas.Bool.Decides.{Decides-and, same_from_decides, nat_tests, Decides-like}
use Rattle.std.specs.List.{range_with_len}
use Rattle.arr_core.specs.declared.domain.Axis.{Axis}
use Rattle.arr_core.specs.Domains.{gap, size_of, coordinates}
use Rattle.arr_core.proofs.Points.{lo-add-gap, gap-add}
use Rattle.map_templates.specs.TypedTrees.{window_of}
use Rattle.map_templates.proofs.Sets.{Every, every-of, every-all, filter-agree, filter-none, filter-here, filter-not_here, filter-map}

pub Decides-int_le : (a b : ℤ) → Decides (int_le a b) (a ≤ℤ b)
Decides-int_le a b = (λ h. grind (arith, ints), λ h. grind (arith, ints))

pub Decides-int_lt : (a b : ℤ) → Decides (int_lt a b) (a <ℤ b)
Decides-int_lt a b = (λ h. grind (arith, ints), λ h. grind (arith, ints))

Decides-nat_le : (a b : ℕ) → Decides (nat_le a b) (a ≤ b)
Decides-nat_le a b = (λ h. grind (arith, nat_tests), λ h. grind (arith, nat_tests))

pub le-true : (a b : ℤ) → a ≤ℤ b → int_le a b ≡ true
le-true a b h = (Decides-int_le a b).1 h

-- so many integers from z on
abbrev pub run : ℤ → ℕ → List ℤ
run z zero = []
run z (suc n) = z ∷ run (z +ℤ pos 1) n

-- whether an integer is one of them
abbrev pub within : ℤ → ℕ → ℤ → Bool
within z n x = int_le z x && int_lt x (z +ℤ pos n)

run-from : (b z : ℤ) (n : ℕ) → b ≤ℤ z → Every (λ x. b ≤ℤ x) (run z n)
run-from b z zero h = tt
run-from b z (suc n) h = (h, run-from b (z +ℤ pos 1) n (omega (arith, ints)))

Decides-within : (z : ℤ) (n : ℕ) (x : ℤ) → Decides (within z n x) ((z ≤ℤ x) × (x <ℤ (z +ℤ pos n)))
Decides-within z n x = Decides-and _ _ (Decides-int_le z x) (Decides-int_lt x (z +ℤ pos n))

pub not-decided : {P : Type 0} (b : Bool) → Decides b P → (P → ⊥) → b ≡ false
not-decided true d never = absurd (never (d.0 refl))
not-decided false d never = refl

within-none : (z x : ℤ) → within z 0 x ≡ false
within-none z x = not-decided (within z 0 x) (Decides-within z 0 x) (λ (h : (z ≤ℤ x) × (x <ℤ (z +ℤ pos 0))). none h.0 h.1)
  where
    none : z ≤ℤ x → x <ℤ (z +ℤ pos 0) → ⊥
    none a b = omega (arith, ints)

within-low : (z : ℤ) (n : ℕ) (x : ℤ) → x <ℤ z → within z n x ≡ false
within-low z n x lt = not-decided (within z n x) (Decides-within z n x) (λ (h : (z ≤ℤ x) × (x <ℤ (z +ℤ pos n))). none h.0)
  where
    none : z ≤ℤ x → ⊥
    none a = omega (arith, ints)

within-here : (z : ℤ) (n : ℕ) → within z (suc n) z ≡ true
within-here z n = (Decides-within z (suc n) z).1 (omega (arith, ints), omega (arith, ints))

within-next : (z : ℤ) (n : ℕ) (x : ℤ) → (z +ℤ pos 1) ≤ℤ x → within (z +ℤ pos 1) n x ≡ within z (suc n) x
within-next z n x le =
    same_from_decides (within (z +ℤ pos 1) n x) (within z (suc n) x) (Decides-within (z +ℤ pos 1) n x)
    (Decides-like (within z (suc n) x) (λ (h : (z ≤ℤ x) × (x <ℤ (z +ℤ pos (suc n)))). (le, down h.1)) (λ (h : ((z +ℤ pos 1) ≤ℤ x) × (x <ℤ ((z +ℤ pos 1) +ℤ pos n))). (low le, back h.1)) (Decides-within z (suc n) x))
  where
    low : (z +ℤ pos 1) ≤ℤ x → z ≤ℤ x
    low above = omega (arith, ints)

    down : x <ℤ (z +ℤ pos (suc n)) → x <ℤ ((z +ℤ pos 1) +ℤ pos n)
    down h = omega (arith, ints)

    back : x <ℤ ((z +ℤ pos 1) +ℤ pos n) → x <ℤ (z +ℤ pos (suc n))
    back h = omega (arith, ints)

-- a run that begins below the other one loses its first integer
lower : (y z : ℤ) (m n : ℕ) → y <ℤ z → filter (within z n) (run (y +ℤ pos 1) m) ≡ filter (within (y +ℤ pos 1) m) (run z n) → filter (within z n) (run y (suc m)) ≡ filter (within y (suc m)) (run z n)
lower y z m n lt e =
    let above : (y +ℤ pos 1) ≤ℤ z = omega (arith, ints) in
    filter-not_here (within z n) y (run (y +ℤ pos 1) m) (within-low z n y lt) ∙ e
    ∙ filter-agree (within (y +ℤ pos 1) m) (within y (suc m)) (run z n) (every-of (λ (x : ℤ). z ≤ℤ x) (λ (x : ℤ). within (y +ℤ pos 1) m x ≡ within y (suc m) x) (run z n) (λ x le. next x le above) (run-from z z n (omega (arith, ints))))
  where
    next : (x : ℤ) → z ≤ℤ x → (y +ℤ pos 1) ≤ℤ z → within (y +ℤ pos 1) m x ≡ within y (suc m) x
    next x le above = within-next y m x (omega (arith, ints))

level : (z : ℤ) (m n : ℕ) → filter (within (z +ℤ pos 1) n) (run (z +ℤ pos 1) m) ≡ filter (within (z +ℤ pos 1) m) (run (z +ℤ pos 1) n) → filter (within z (suc n)) (run z (suc m)) ≡ filter (within z (suc m)) (run z (suc n))
level z m n e =
    filter-here (within z (suc n)) z (run (z +ℤ pos 1) m) (within-here z n)
    ∙ ap (λ (xs : List ℤ). z ∷ xs) (sym (agree m n) ∙ e ∙ agree n m)
    ∙ sym (filter-here (within z (suc m)) z (run (z +ℤ pos 1) n) (within-here z m))
  where
    agree : (k l : ℕ) → filter (within (z +ℤ pos 1) l) (run (z +ℤ pos 1) k) ≡ filter (within z (suc l)) (run (z +ℤ pos 1) k)
    agree k l = filter-agree (within (z +ℤ pos 1) l) (within z (suc l)) (run (z +ℤ pos 1) k) (every-of (λ (x : ℤ). (z +ℤ pos 1) ≤ℤ x) (λ (x : ℤ). within (z +ℤ pos 1) l x ≡ within z (suc l) x) (run (z +ℤ pos 1) k) (λ x le. within-next z l x le) (run-from (z +ℤ pos 1) (z +ℤ pos 1) k (omega (arith, ints))))

-- what two runs have in common
meet : (k : ℕ) (y z : ℤ) (m n : ℕ) → m + n ≤ k → filter (within z n) (run y m) ≡ filter (within y m) (run z n)
meet k y z zero n h = sym (filter-none (within y 0) (run z n) (every-all (λ (x : ℤ). within y 0 x ≡ false) (run z n) (within-none y)))
meet k y z (suc m) zero h = filter-none (within z 0) (run y (suc m)) (every-all (λ (x : ℤ). within z 0 x ≡ false) (run y (suc m)) (within-none z))
meet zero y z (suc m) (suc n) h = absurd (omega arith)
meet (suc k) y z (suc m) (suc n) h =
    by_lt_z y z (λ lt. lower y z m (suc n) lt (meet k (y +ℤ pos 1) z m (suc n) (omega arith)))
    (λ le. by_lt_z z y (λ lt. sym (lower z y n (suc m) lt (sym (meet k y (z +ℤ pos 1) (suc m) n (omega arith)))))
    (λ ge. same (antisym le ge) (meet k (y +ℤ pos 1) (y +ℤ pos 1) m n (omega arith))))
  where
    antisym : z ≤ℤ y → y ≤ℤ z → y ≡ z
    antisym le ge = omega (arith, ints)

    same : y ≡ z → filter (within (y +ℤ pos 1) n) (run (y +ℤ pos 1) m) ≡ filter (within (y +ℤ pos 1) m) (run (y +ℤ pos 1) n) → filter (within z (suc n)) (run y (suc m)) ≡ filter (within y (suc m)) (run z (suc n))
    same e h = subst (λ (x : ℤ). filter (within x (suc n)) (run y (suc m)) ≡ filter (within y (suc m)) (run x (suc n))) e (level y m n h)

coordinates-from : (lo : ℤ) (k n : ℕ) → map (λ i. lo +ℤ pos i) (range_with_len k n) ≡ run (lo +ℤ pos k) n
coordinates-from lo k zero = refl
coordinates-from lo k (suc n) =
    let step : lo +ℤ pos (k + 1) ≡ (lo +ℤ pos k) +ℤ pos 1 = omega (arith, ints) in
    ap (λ (xs : List ℤ). (lo +ℤ pos k) ∷ xs) (coordinates-from lo (k + 1) n ∙ ap (λ (z : ℤ). run z n) step)

pub coordinates-run : (a : Axis) → coordinates a ≡ run a.lo (size_of a)
coordinates-run a =
    let none : a.lo +ℤ pos 0 ≡ a.lo = omega (arith, ints) in
    coordinates-from a.lo 0 (size_of a) ∙ ap (λ (z : ℤ). run z (size_of a)) none

map-run : (c z : ℤ) (n : ℕ) → map (λ u. c +ℤ u) (run z n) ≡ run (c +ℤ z) n
map-run c z zero = refl
map-run c z (suc n) =
    let step : c +ℤ (z +ℤ pos 1) ≡ (c +ℤ z) +ℤ pos 1 = omega (arith, ints) in
    ap (λ (xs : List ℤ). (c +ℤ z) ∷ xs) (map-run c (z +ℤ pos 1) n ∙ ap (λ (y : ℤ). run y n) step)

-- on the axis
abbrev pub is_on : Axis → ℤ → Bool
is_on a x = int_le a.lo x && int_le x a.hi

on-within : (a : Axis) (x : ℤ) → a.lo ≤ℤ a.hi → within a.lo (size_of a) x ≡ is_on a x
on-within a x ordered =
    let whole = lo-add-gap a.lo a.hi ordered in
    same_from_decides (within a.lo (size_of a) x) (is_on a x) (Decides-within a.lo (size_of a) x)
    (Decides-like (is_on a x) (λ (h : (a.lo ≤ℤ x) × (x ≤ℤ a.hi)). (h.0, there whole h.1)) (λ (h : (a.lo ≤ℤ x) × (x <ℤ (a.lo +ℤ pos (size_of a)))). (h.0, back whole h.1)) (Decides-and _ _ (Decides-int_le a.lo x) (Decides-int_le x a.hi)))
  where
    there : a.lo +ℤ pos (gap a.lo a.hi) ≡ a.hi → x ≤ℤ a.hi → x <ℤ (a.lo +ℤ pos (gap a.lo a.hi + 1))
    there whole h = omega (arith, ints)

    back : a.lo +ℤ pos (gap a.lo a.hi) ≡ a.hi → x <ℤ (a.lo +ℤ pos (gap a.lo a.hi + 1)) → x ≤ℤ a.hi
    back whole h = omega (arith, ints)

pub window-size : (r : ℕ) (a : Axis) → size_of (window_of r a) ≡ (r + r) + 1
window-size r a =
    let whole : (pos 0 -ℤ pos r) +ℤ pos (r + r) ≡ pos r = omega (arith, ints) in
    ap (λ (n : ℕ). n + 1) (ap (λ (z : ℤ). gap (pos 0 -ℤ pos r) z) (sym whole) ∙ gap-add (pos 0 -ℤ pos r) (r + r))

small-abs : (z : ℤ) (r : ℕ) → nat_abs z ≤ r → ((pos 0 -ℤ pos r) ≤ℤ z) × (z ≤ℤ pos r)
small-abs (pos n) r h = (omega (arith, ints), omega (arith, ints))
small-abs (negsuc n) r h = (omega (arith, ints), omega (arith, ints))

abs-small : (z : ℤ) (r : ℕ) → (pos 0 -ℤ pos r) ≤ℤ z → z ≤ℤ pos r → nat_abs z ≤ r
abs-small (pos n) r h k = omega (arith, ints)
abs-small (negsuc n) r h k = omega (arith, ints)

near-within : (c : ℤ) (r : ℕ) (x : ℤ) → within (c +ℤ (pos 0 -ℤ pos r)) ((r + r) + 1) x ≡ nat_le (gap c x) r
near-within c r x =
    same_from_decides (within (c +ℤ (pos 0 -ℤ pos r)) ((r + r) + 1) x) (nat_le (gap c x) r) (Decides-within (c +ℤ (pos 0 -ℤ pos r)) ((r + r) + 1) x)
    (Decides-like (nat_le (gap c x) r) there (λ (h : ((c +ℤ (pos 0 -ℤ pos r)) ≤ℤ x) × (x <ℤ ((c +ℤ (pos 0 -ℤ pos r)) +ℤ pos ((r + r) + 1)))). back h.0 h.1) (Decides-nat_le (gap c x) r))
  where
    moved : (pos 0 -ℤ pos r) ≤ℤ (x -ℤ c) → (x -ℤ c) ≤ℤ pos r → ((c +ℤ (pos 0 -ℤ pos r)) ≤ℤ x) × (x <ℤ ((c +ℤ (pos 0 -ℤ pos r)) +ℤ pos ((r + r) + 1)))
    moved a b = (omega (arith, ints), omega (arith, ints))

    there : gap c x ≤ r → ((c +ℤ (pos 0 -ℤ pos r)) ≤ℤ x) × (x <ℤ ((c +ℤ (pos 0 -ℤ pos r)) +ℤ pos ((r + r) + 1)))
    there h = let s = small-abs (x -ℤ c) r h in moved s.0 s.1

    back : (c +ℤ (pos 0 -ℤ pos r)) ≤ℤ x → x <ℤ ((c +ℤ (pos 0 -ℤ pos r)) +ℤ pos ((r + r) + 1)) → gap c x ≤ r
    back a b = abs-small (x -ℤ c) r (omega (arith, ints)) (omega (arith, ints))

-- the offsets of a window that stay on the axis, moved to their centre, are the coordinates that are near it
pub moved-window : (a : Axis) (c : ℤ) (r : ℕ) → a.lo ≤ℤ a.hi
    → map (λ u. c +ℤ u) (filter (λ u. is_on a (c +ℤ u)) (coordinates (window_of r a))) ≡ filter (λ x. nat_le (gap c x) r) (coordinates a)
moved-window a c r ordered =
    let low = c +ℤ (pos 0 -ℤ pos r) in
    let wide = (r + r) + 1 in
    sym (filter-map (is_on a) (λ u. c +ℤ u) (coordinates (window_of r a)))
    ∙ ap (filter (is_on a)) (ap (map (λ u. c +ℤ u)) (coordinates-run (window_of r a)) ∙ map-run c (pos 0 -ℤ pos r) (size_of (window_of r a)) ∙ ap (run low) (window-size r a))
    ∙ filter-agree (is_on a) (within a.lo (size_of a)) (run low wide) (every-all (λ (x : ℤ). is_on a x ≡ within a.lo (size_of a) x) (run low wide) (λ x. sym (on-within a x ordered)))
    ∙ meet (wide + size_of a) low a.lo wide (size_of a) (omega arith)
    ∙ filter-agree (within low wide) (λ x. nat_le (gap c x) r) (run a.lo (size_of a)) (every-all (λ (x : ℤ). within low wide x ≡ nat_le (gap c x) r) (run a.lo (size_of a)) (near-within c r))
    ∙ ap (filter (λ x. nat_le (gap c x) r)) (sym (coordinates-run a))
