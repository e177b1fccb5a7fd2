-- The values of the templates' typed trees.
use Rattle.std.proofs.Common.{◌≡◌, ◌≢◌, ℕ, zero, suc, ◌*◌, ◌≤◌, ◌<◌, ℤ, pos, negsuc, neg_ℤ, ◌+ℤ◌, ◌-ℤ◌, ◌*ℤ◌, ◌≤ℤ◌, ◌<ℤ◌, int_le, int_lt, nat_le, nat_abs, List, [], ◌∷◌, ◌++◌, length, get_or, insert, map, filter, Bool, true, false, cond, ◌&&◌, refl, ap, sym, ◌∙◌, subst, arith, append_assoc, append-nil}
use Rattle.std.proofs.lemmas.Int.{ints, by_lt_z}
use Rattle.std.proofs.lemmas.Bool.Decides.{nat_tests}
use Rattle.std.proofs.lemmas.Bool.{false≢true}
use Rattle.arr_core.specs.declared.domain.Axis.{Axis}
use Rattle.arr_core.specs.Domains.{gap, points, rank_of, AreOrdered, IsInside}
use Rattle.arr_core.proofs.Points.{at_rank, rank_of-lt-count, length-points}
use Rattle.wcps_text.specs.declared.operator.BinaryOperator.TheVariants as binaries
use Rattle.wcps_types.specs.Typed.{Typed, binary, bracket}
use Rattle.wcps_mean.specs.declared.cell.Outcome.TheVariants.{Value}
use Rattle.wcps_mean.specs.Cells as cells
use Rattle.arr_core.specs.Cells.{truth_of}
use Rattle.wcps_mean.specs.Cells.{fits_64, ranged, truth, int_eq, operate2}
use Rattle.wcps_mean.specs.Condensers.{larger, smaller, condensed, combined}
use Rattle.wcps_mean.specs.Meaning.{val}
use Rattle.map_templates.specs.declared.template.LocalOperation.{LocalOperation}
use Rattle.map_templates.specs.declared.template.LocalOperation.TheVariants as locals
use Rattle.map_templates.specs.declared.template.Summary.{Summary}
use Rattle.map_templates.specs.Tomlin.{Raster, local, focal, zonal, are_near}
use Rattle.map_templates.specs.TypedTrees.{condenser_of, local_tree, located, iterators, zonal_tree, windows_of, literal, edge_tree, first_moved, second_moved, focal_tree}
use Rattle.wcps_mean.specs.Reading.{CellsOf}
use Rattle.map_templates.specs.Laws.{Reads, IsSmall}
use Rattle.map_templates.proofs.Sets.{Every, every-of, every-map, every-all, map-map, cons-nil}
use Rattle.map_templates.proofs.Summaries.{condensed-values, kept, combined-summary}
use Rattle.map_templates.proofs.Windows.{Decides-int_le, Decides-int_lt, not-decided, le-true, is_on}
use Rattle.map_templates.proofs.Places.{points-inside, moved, stays, moved-windows}

-- ---- local

times-one : (x : ℤ) → x *ℤ pos 1 ≡ x
times-one (pos n) = let e : n * 1 ≡ n = omega arith in ap pos e
times-one (negsuc n) = let e : suc n * 1 ≡ suc n = omega arith in ap (λ (m : ℕ). neg_ℤ (pos m)) e

times-none : (x : ℤ) → x *ℤ pos 0 ≡ pos 0
times-none (pos n) = let e : n * 0 ≡ 0 = omega arith in ap pos e
times-none (negsuc n) = let e : suc n * 0 ≡ 0 = omega arith in ap (λ (m : ℕ). neg_ℤ (pos m)) e

alone : (x y z : ℤ) → fits_64 z ≡ true → x +ℤ y ≡ z → fits_64 x ≡ true → fits_64 y ≡ true → operate2 binaries.Add (ranged x) (ranged y) ≡ ranged z
alone x y z h sum fx fy = rw (fx, fy) (ap ranged sum)

left-alone : (x y : ℤ) → fits_64 x ≡ true → operate2 binaries.Add (ranged (x *ℤ pos 1)) (ranged (y *ℤ pos 0)) ≡ ranged x
left-alone x y h =
    ap (λ (z : ℤ). operate2 binaries.Add (ranged z) (ranged (y *ℤ pos 0))) (times-one x) ∙ ap (λ (z : ℤ). operate2 binaries.Add (ranged x) (ranged z)) (times-none y)
    ∙ alone x (pos 0) x h (omega (arith, ints)) h refl

right-alone : (x y : ℤ) → fits_64 y ≡ true → operate2 binaries.Add (ranged (x *ℤ pos 0)) (ranged (y *ℤ pos 1)) ≡ ranged y
right-alone x y h =
    ap (λ (z : ℤ). operate2 binaries.Add (ranged z) (ranged (y *ℤ pos 1))) (times-none x) ∙ ap (λ (z : ℤ). operate2 binaries.Add (ranged (pos 0)) (ranged z)) (times-one y)
    ∙ alone (pos 0) y y h (omega (arith, ints)) refl h

le-false : (a b : ℤ) → b <ℤ a → int_le a b ≡ false
le-false a b h = not-decided (int_le a b) (Decides-int_le a b) (λ (le : a ≤ℤ b). over h le)
  where
    over : b <ℤ a → a ≤ℤ b → ⊥
    over lt le = omega (arith, ints)

lt-true : (a b : ℤ) → a <ℤ b → int_lt a b ≡ true
lt-true a b h = (Decides-int_lt a b).1 h

lt-false : (a b : ℤ) → b ≤ℤ a → int_lt a b ≡ false
lt-false a b h = not-decided (int_lt a b) (Decides-int_lt a b) (λ (lt : a <ℤ b). over h lt)
  where
    over : b ≤ℤ a → a <ℤ b → ⊥
    over le lt = omega (arith, ints)

same-at-tie : (x y : ℤ) → y ≤ℤ x → x ≤ℤ y → y ≡ x
same-at-tie x y ge le = omega (arith, ints)

larger-left : (x y : ℤ) → y ≤ℤ x → larger x y ≡ x
larger-left x y h = pick (int_le x y) refl
  where
    pick : (t : Bool) → int_le x y ≡ t → cond t y x ≡ x
    pick true e = same-at-tie x y h ((Decides-int_le x y).0 e)
    pick false e = refl

greater-value : (x y : ℤ) → fits_64 x ≡ true → fits_64 y ≡ true
    → operate2 binaries.Add (ranged (x *ℤ cells.number (int_le y x))) (ranged (y *ℤ cells.number (int_lt x y))) ≡ ranged (larger x y)
greater-value x y fx fy =
    by_lt_z x y (λ lt. rw (le-false y x lt, lt-true x y lt) (right-alone x y fy ∙ ap ranged (sym (right lt))))
    (λ le. rw (le-true y x le, lt-false x y le) (left-alone x y fx ∙ ap ranged (sym (larger-left x y le))))
  where
    right : x <ℤ y → larger x y ≡ y
    right lt = rw (le-true x y (omega (arith, ints))) refl

lesser-value : (x y : ℤ) → fits_64 x ≡ true → fits_64 y ≡ true
    → operate2 binaries.Add (ranged (x *ℤ cells.number (int_le x y))) (ranged (y *ℤ cells.number (int_lt y x))) ≡ ranged (smaller x y)
lesser-value x y fx fy =
    by_lt_z y x (λ lt. rw (le-false x y lt, lt-true y x lt) (right-alone x y fy))
    (λ le. rw (le-true x y le, lt-false y x le) (left-alone x y fx))

pub local-value : (op : LocalOperation) (s : CellsOf) (ta tb : Typed) (a b : Raster) (p : List ℤ) → val s ta [] p ≡ Value (a p) → val s tb [] p ≡ Value (b p) → fits_64 (a p) ≡ true → fits_64 (b p) ≡ true
    → val s (local_tree op ta tb) [] p ≡ ranged (local op a b p)
local-value locals.Sum s ta tb a b p ha hb fa fb = rw (ha, hb) refl
local-value locals.Difference s ta tb a b p ha hb fa fb = rw (ha, hb) refl
local-value locals.Product s ta tb a b p ha hb fa fb = rw (ha, hb) refl
local-value locals.Maximum s ta tb a b p ha hb fa fb = rw (ha, hb) (greater-value (a p) (b p) fa fb)
local-value locals.Minimum s ta tb a b p ha hb fa fb = rw (ha, hb) (lesser-value (a p) (b p) fa fb)

-- ---- a layer at positions

-- the positions have these values, one on each axis
abbrev pub Placed : CellsOf → List ℤ → List Axis → List Typed → List ℤ → Type 0
Placed s env [] [] [] = Unit {0}
Placed s env (a ∷ axes) (t ∷ ts) (x ∷ xs) = (val s t env [] ≡ Value x) × (a.lo ≤ℤ x) × (x ≤ℤ a.hi) × Placed s env axes ts xs
Placed s env [] [] (x ∷ xs) = ⊥
Placed s env [] (t ∷ ts) xs = ⊥
Placed s env (a ∷ axes) [] xs = ⊥
Placed s env (a ∷ axes) (t ∷ ts) [] = ⊥

insert-end : (q : List ℤ) (k : ℕ) (x : ℤ) → length q ≡ k → insert q k x ≡ q ++ x ∷ []
insert-end [] zero x e = refl
insert-end [] (suc k) x e = absurd (omega arith)
insert-end (y ∷ q) zero x e = absurd (omega arith)
insert-end (y ∷ q) (suc k) x e = ap (λ (xs : List ℤ). y ∷ xs) (insert-end q k x (omega arith))

longer : (q : List ℤ) (x : ℤ) (k : ℕ) → length q ≡ k → length (q ++ x ∷ []) ≡ suc k
longer [] x zero e = refl
longer [] x (suc k) e = absurd (omega arith)
longer (y ∷ q) x zero e = absurd (omega arith)
longer (y ∷ q) x (suc k) e = ap suc (longer q x k (omega arith))

pub located-value : (s : CellsOf) (e : Typed) (a : Raster) → Reads s e a → (env : List ℤ) (axes : List Axis) (ts : List Typed) (xs q : List ℤ) (k : ℕ) → length q ≡ k → Placed s env axes ts xs
    → val s (located e k axes ts) env q ≡ Value (a (q ++ xs))
located-value s e a reads env [] [] [] q k n h = reads env q ∙ ap (λ (p : List ℤ). Value (a p)) (sym (append-nil q))
located-value s e a reads env [] [] (x ∷ xs) q k n h = absurd h
located-value s e a reads env [] (t ∷ ts) xs q k n h = absurd h
located-value s e a reads env (b ∷ axes) [] xs q k n h = absurd h
located-value s e a reads env (b ∷ axes) (t ∷ ts) [] q k n h = absurd h
located-value s e a reads env (b ∷ axes) (t ∷ ts) (x ∷ xs) q k n h =
    let more = located-value s e a reads env axes ts xs (q ++ x ∷ []) (suc k) (longer q x k n) h.3 in
    rw (h.0, le-true b.lo x h.1, le-true x b.hi h.2)
    (ap (λ (p : List ℤ). val s (located e (suc k) axes ts) env p) (insert-end q k x n) ∙ more ∙ ap (λ (p : List ℤ). Value (a p)) (append_assoc q (x ∷ []) xs))

at-end : (front rest : List ℤ) (x : ℤ) (k : ℕ) → length front ≡ k → get_or (front ++ x ∷ rest) k (pos 0) ≡ x
at-end [] rest x zero e = refl
at-end [] rest x (suc k) e = absurd (omega arith)
at-end (y ∷ front) rest x zero e = absurd (omega arith)
at-end (y ∷ front) rest x (suc k) e = at-end front rest x k (omega arith)

pub iterators-placed : (s : CellsOf) (front back : List ℤ) (axes : List Axis) (xs : List ℤ) (k : ℕ) → length front ≡ k → IsInside axes xs → Placed s (front ++ (xs ++ back)) axes (iterators k axes) xs
iterators-placed s front back [] [] k n h = tt
iterators-placed s front back [] (x ∷ xs) k n h = absurd h
iterators-placed s front back (a ∷ axes) [] k n h = absurd h
iterators-placed s front back (a ∷ axes) (x ∷ xs) k n h = (
  ap Value (at-end front (xs ++ back) x k n),
  h.0,
  h.1,
  subst (λ (env : List ℤ). Placed s env axes (iterators (suc k) axes) xs) (append_assoc front (x ∷ []) (xs ++ back)) (iterators-placed s (front ++ x ∷ []) back axes xs (suc k) (longer front x k n) h.2),
)

pub inside-length : (axes : List Axis) (p : List ℤ) → IsInside axes p → length p ≡ length axes
inside-length [] [] h = refl
inside-length [] (x ∷ p) h = absurd h
inside-length (a ∷ axes) [] h = absurd h
inside-length (a ∷ axes) (x ∷ p) h = ap suc (inside-length axes p h.2)

-- ---- a set that has a location

none-passes : {X : Type 0} (c : X → Bool) (xs : List X) → filter c xs ≡ [] → Every (λ x. c x ≡ false) xs
none-passes c [] e = tt
none-passes {X} c (x ∷ xs) e = pick (c x) refl (none-passes c xs) e
  where
    pick : (b : Bool) → c x ≡ b → (filter c xs ≡ [] → Every (λ (y : X). c y ≡ false) xs) → cond b (x ∷ filter c xs) (filter c xs) ≡ [] → Every (λ (y : X). c y ≡ false) (x ∷ xs)
    pick true is more none = absurd (cons-nil x (filter c xs) none)
    pick false is more none = (is, more none)

every-at : {X : Type 0} (P : X → Type 0) (xs : List X) (k : ℕ) (d : X) → Every P xs → k < length xs → P (get_or xs k d)
every-at P [] k d h lt = absurd (omega arith)
every-at P (x ∷ xs) zero d h lt = h.0
every-at P (x ∷ xs) (suc k) d h lt = every-at P xs k d h.1 (omega arith)

map-none : {X Y : Type 0} (f : X → Y) (xs : List X) → map f xs ≡ [] → xs ≡ []
map-none f [] e = refl
map-none f (x ∷ xs) e = absurd (cons-nil (f x) (map f xs) e)

-- a set of locations with the location p
pub some-location : (axes : List Axis) (p : List ℤ) (c : List ℤ → Bool) (v : List ℤ → ℤ) → IsInside axes p → c p ≡ true → map v (filter c (points axes)) ≢ []
some-location axes p c v inside passes none =
    let all = none-passes c (points axes) (map-none v (filter c (points axes)) none) in
    let here = every-at (λ (q : List ℤ). c q ≡ false) (points axes) (rank_of axes p) p all (subst (λ (n : ℕ). rank_of axes p < n) (sym (length-points axes)) (rank_of-lt-count axes p inside)) in
    both passes (subst (λ (q : List ℤ). c q ≡ false) (at_rank axes p p inside) here)
  where
    both : c p ≡ true → c p ≡ false → ⊥
    both y n = absurd (false≢true (sym n ∙ y))

-- ---- zonal

-- a layer at the location whose coordinates stand at the end of the environment
at-other : (s : CellsOf) (e : Typed) (a : Raster) → Reads s e a → (axes : List Axis) (p x : List ℤ) → IsInside axes p → IsInside axes x
    → val s (located e 0 axes (iterators (length axes) axes)) (p ++ x) [] ≡ Value (a x)
at-other s e a reads axes p x hp hx =
    let placed = iterators-placed s p [] axes x (length axes) (inside-length axes p hp) hx in
    located-value s e a reads (p ++ x) axes (iterators (length axes) axes) x [] 0 refl (subst (λ (y : List ℤ). Placed s (p ++ y) axes (iterators (length axes) axes) x) (append-nil x) placed)

-- a layer at the location whose coordinates stand first
at-own : (s : CellsOf) (e : Typed) (a : Raster) → Reads s e a → (axes : List Axis) (p x : List ℤ) → IsInside axes p → val s (located e 0 axes (iterators 0 axes)) (p ++ x) [] ≡ Value (a p)
at-own s e a reads axes p x hp = located-value s e a reads (p ++ x) axes (iterators 0 axes) p [] 0 refl (iterators-placed s [] x axes p 0 refl hp)

pub int_eq-same : (x : ℤ) → int_eq x x ≡ true
int_eq-same x = rw (le-true x x (omega (arith, ints))) refl

pub zonal-value : (op : Summary) (s : CellsOf) (axes : List Axis) (ta tz : Typed) (a z : Raster) (p : List ℤ) → AreOrdered axes → Reads s ta a → Reads s tz z → ((q : List ℤ) → fits_64 (a q) ≡ true) → IsInside axes p
    → val s (zonal_tree op axes ta tz) [] p ≡ ranged (zonal op axes a z p)
zonal-value op s axes ta tz a z p ordered ra rz fits inside =
    let same : List ℤ → Bool = λ q. int_eq (z q) (z p) in
    let test : Typed = binary binaries.Equal (bracket (located tz 0 axes (iterators (length axes) axes))) (bracket (located tz 0 axes (iterators 0 axes))) in
    let body : Typed = bracket (located ta 0 axes (iterators (length axes) axes)) in
    ap (condensed (condenser_of op)) (kept same a (λ x. val s test (p ++ x) []) (λ x. val s body (p ++ x) []) (points axes)
    (every-of (IsInside axes) (λ (x : List ℤ). val s test (p ++ x) [] ≡ truth (same x)) (points axes) (λ x h. rw (at-other s tz z rz axes p x inside h, at-own s tz z rz axes p x inside) refl) (points-inside axes ordered))
    (every-of (IsInside axes) (λ (x : List ℤ). same x ≡ true → val s body (p ++ x) [] ≡ Value (a x)) (points axes) (λ x h _. at-other s ta a ra axes p x inside h) (points-inside axes ordered)))
    ∙ condensed-values (condenser_of op) (map a (filter same (points axes)))
    ∙ combined-summary op (map a (filter same (points axes))) (some-location axes p same a inside (int_eq-same (z p)))
    (every-map (λ (v : ℤ). fits_64 v ≡ true) a (filter same (points axes)) (every-all (λ (q : List ℤ). fits_64 (a q) ≡ true) (filter same (points axes)) fits))

-- ---- focal

pub small-fits : (z : ℤ) → negsuc 4294967296 ≤ℤ z → z ≤ℤ pos 4294967296 → fits_64 z ≡ true
small-fits (pos n) low high = let h : n ≤ 4294967296 = omega (arith, ints) in grind (arith, nat_tests)
small-fits (negsuc n) low high = let h : n ≤ 4294967296 = omega (arith, ints) in grind (arith, nat_tests)

literal-value : (s : CellsOf) (z : ℤ) (env : List ℤ) → fits_64 z ≡ true → val s (literal z) env [] ≡ Value z
literal-value s (pos n) env h = refl
literal-value s (negsuc n) env h = rw h refl

truth_of-number : (b : Bool) → truth_of (cells.number b) ≡ b
truth_of-number true = refl
truth_of-number false = refl

four : (a b c d : Bool) → ((a && b) && c) && d ≡ (a && b) && ((c && d) && true)
four true true true true = refl
four true true true false = refl
four true true false d = refl
four true false c d = refl
four false b c d = refl

-- an axis's bounds, its coordinate c and its offset u
record Near (a : Axis) (r : ℕ) (c u : ℤ) : Type 0 where
  small : IsSmall a
  low : a.lo ≤ℤ c
  high : c ≤ℤ a.hi
  before : (pos 0 -ℤ pos r) ≤ℤ u
  behind : u ≤ℤ pos r

sum-fits : (a : Axis) (r : ℕ) (c u : ℤ) → r ≤ 8 → Near a r c u → fits_64 (c +ℤ u) ≡ true
sum-fits a r c u few n = sum few n.small.0 n.small.1 n.low n.high n.before n.behind
  where
    sum : r ≤ 8 → negsuc 2147483647 ≤ℤ a.lo → a.hi ≤ℤ pos 2147483647 → a.lo ≤ℤ c → c ≤ℤ a.hi → (pos 0 -ℤ pos r) ≤ℤ u → u ≤ℤ pos r → fits_64 (c +ℤ u) ≡ true
    sum h0 h1 h2 h3 h4 h5 h6 = small-fits (c +ℤ u) (omega (arith, ints)) (omega (arith, ints))

bounds-fit : (a : Axis) → IsSmall a → a.lo ≤ℤ a.hi → (fits_64 a.lo ≡ true) × (fits_64 a.hi ≡ true)
bounds-fit a small ordered = both small.0 small.1 ordered
  where
    both : negsuc 2147483647 ≤ℤ a.lo → a.hi ≤ℤ pos 2147483647 → a.lo ≤ℤ a.hi → (fits_64 a.lo ≡ true) × (fits_64 a.hi ≡ true)
    both h1 h2 h3 = (small-fits a.lo (omega (arith, ints)) (omega (arith, ints)), small-fits a.hi (omega (arith, ints)) (omega (arith, ints)))

near-same : (r : ℕ) (axes : List Axis) (p : List ℤ) → IsInside axes p → are_near r p p ≡ true
near-same r [] [] h = refl
near-same r [] (x ∷ p) h = absurd h
near-same r (a ∷ axes) [] h = absurd h
near-same r (a ∷ axes) (x ∷ p) h = rw (none x, near-same r axes p h.2) (here r)
  where
    none : (x : ℤ) → gap x x ≡ 0
    none x = let e : x -ℤ x ≡ pos 0 = omega (arith, ints) in ap nat_abs e

    here : (n : ℕ) → nat_le 0 n && true ≡ true
    here n = grind (arith, nat_tests)

-- the condition and the body at an offset
focal-test : (s : CellsOf) (x y : Axis) (r : ℕ) (c d u v : ℤ) → r ≤ 8 → x.lo ≤ℤ x.hi → y.lo ≤ℤ y.hi → Near x r c u → Near y r d v
    → val s (binary binaries.And (binary binaries.And (edge_tree first_moved x) (binary binaries.GreaterEqual second_moved (literal y.lo))) (binary binaries.LessEqual second_moved (literal y.hi))) (c ∷ d ∷ u ∷ v ∷ []) [] ≡ truth (stays (x ∷ y ∷ []) (c ∷ d ∷ []) (u ∷ v ∷ []))
focal-test s x y r c d u v few ox oy nx ny =
    let fx = bounds-fit x nx.small ox in
    let fy = bounds-fit y ny.small oy in
    let env = c ∷ d ∷ u ∷ v ∷ [] in
    rw (sum-fits x r c u few nx, sum-fits y r d v few ny, literal-value s x.lo env fx.0, literal-value s x.hi env fx.1, literal-value s y.lo env fy.0, literal-value s y.hi env fy.1)
    (rw (truth_of-number (int_le x.lo (c +ℤ u)), truth_of-number (int_le (c +ℤ u) x.hi))
    (rw (truth_of-number (int_le x.lo (c +ℤ u) && int_le (c +ℤ u) x.hi), truth_of-number (int_le y.lo (d +ℤ v)))
    (rw (truth_of-number ((int_le x.lo (c +ℤ u) && int_le (c +ℤ u) x.hi) && int_le y.lo (d +ℤ v)), truth_of-number (int_le (d +ℤ v) y.hi))
    (ap truth (four (int_le x.lo (c +ℤ u)) (int_le (c +ℤ u) x.hi) (int_le y.lo (d +ℤ v)) (int_le (d +ℤ v) y.hi))))))

and-true : (a b : Bool) → a && b ≡ true → (a ≡ true) × (b ≡ true)
and-true true b e = (refl, e)
and-true false b e = absurd (false≢true e)

le-from : (a b : ℤ) → int_le a b ≡ true → a ≤ℤ b
le-from a b e = (Decides-int_le a b).0 e

ranged-value : (z : ℤ) → fits_64 z ≡ true → ranged z ≡ Value z
ranged-value z h = rw h refl

focal-body : (s : CellsOf) (ta : Typed) (a : Raster) → Reads s ta a → (x y : Axis) (r : ℕ) (c d u v : ℤ) → r ≤ 8 → Near x r c u → Near y r d v → stays (x ∷ y ∷ []) (c ∷ d ∷ []) (u ∷ v ∷ []) ≡ true
    → val s (bracket (located ta 0 (x ∷ y ∷ []) (first_moved ∷ second_moved ∷ []))) (c ∷ d ∷ u ∷ v ∷ []) [] ≡ Value (a (moved (c ∷ d ∷ []) (u ∷ v ∷ [])))
focal-body s ta a reads x y r c d u v few nx ny stay =
    let parts = and-true (is_on x (c +ℤ u)) (is_on y (d +ℤ v) && true) stay in
    let first = and-true (int_le x.lo (c +ℤ u)) (int_le (c +ℤ u) x.hi) parts.0 in
    let rest = and-true (is_on y (d +ℤ v)) true parts.1 in
    let second = and-true (int_le y.lo (d +ℤ v)) (int_le (d +ℤ v) y.hi) rest.0 in
    located-value s ta a reads (c ∷ d ∷ u ∷ v ∷ []) (x ∷ y ∷ []) (first_moved ∷ second_moved ∷ []) ((c +ℤ u) ∷ (d +ℤ v) ∷ []) [] 0 refl (
      ranged-value (c +ℤ u) (sum-fits x r c u few nx),
      le-from x.lo (c +ℤ u) first.0,
      le-from (c +ℤ u) x.hi first.1,
      (ranged-value (d +ℤ v) (sum-fits y r d v few ny), le-from y.lo (d +ℤ v) second.0, le-from (d +ℤ v) y.hi second.1, tt),
    )

-- what the condenser is given at an offset
record AtOffset (s : CellsOf) (ta : Typed) (a : Raster) (x y : Axis) (p q : List ℤ) : Type 0 where
  test : val s (binary binaries.And (binary binaries.And (edge_tree first_moved x) (binary binaries.GreaterEqual second_moved (literal y.lo))) (binary binaries.LessEqual second_moved (literal y.hi))) (p ++ q) [] ≡ truth (stays (x ∷ y ∷ []) p q)
  body : stays (x ∷ y ∷ []) p q ≡ true → val s (bracket (located ta 0 (x ∷ y ∷ []) (first_moved ∷ second_moved ∷ []))) (p ++ q) [] ≡ Value (a (moved p q))

at-offset : (s : CellsOf) (ta : Typed) (a : Raster) → Reads s ta a → (x y : Axis) (r : ℕ) → r ≤ 8 → IsSmall x → IsSmall y → AreOrdered (x ∷ y ∷ []) → (p q : List ℤ) → IsInside (x ∷ y ∷ []) p → IsInside (windows_of r (x ∷ y ∷ [])) q
    → AtOffset s ta a x y p q
at-offset s ta a reads x y r few sx sy ordered [] q hp hq = absurd hp
at-offset s ta a reads x y r few sx sy ordered (c ∷ []) q hp hq = absurd hp.2
at-offset s ta a reads x y r few sx sy ordered (c ∷ d ∷ e ∷ p) q hp hq = absurd hp.2.2
at-offset s ta a reads x y r few sx sy ordered (c ∷ d ∷ []) [] hp hq = absurd hq
at-offset s ta a reads x y r few sx sy ordered (c ∷ d ∷ []) (u ∷ []) hp hq = absurd hq.2
at-offset s ta a reads x y r few sx sy ordered (c ∷ d ∷ []) (u ∷ v ∷ w ∷ q) hp hq = absurd hq.2.2
at-offset s ta a reads x y r few sx sy ordered (c ∷ d ∷ []) (u ∷ v ∷ []) hp hq =
    let nx : Near x r c u = record { small = sx; low = hp.0; high = hp.1; before = hq.0; behind = hq.1 } in
    let ny : Near y r d v = record { small = sy; low = hp.2.0; high = hp.2.1; before = hq.2.0; behind = hq.2.1 } in
    record {
      test = focal-test s x y r c d u v few ordered.0 ordered.1.0 nx ny;
      body = focal-body s ta a reads x y r c d u v few nx ny;
    }

windows-ordered : (r : ℕ) (axes : List Axis) → AreOrdered (windows_of r axes)
windows-ordered r [] = tt
windows-ordered r (a ∷ axes) = (omega (arith, ints), windows-ordered r axes)

pub focal-value : (op : Summary) (s : CellsOf) (x y : Axis) (r : ℕ) (ta : Typed) (a : Raster) (p : List ℤ) → r ≤ 8 → IsSmall x → IsSmall y → AreOrdered (x ∷ y ∷ []) → Reads s ta a → ((q : List ℤ) → fits_64 (a q) ≡ true) → IsInside (x ∷ y ∷ []) p
    → val s (focal_tree op x y r ta) [] p ≡ ranged (focal op (x ∷ y ∷ []) r a p)
focal-value op s x y r ta a p few sx sy ordered ra fits inside =
    let axes : List Axis = x ∷ y ∷ [] in
    let windows : List Axis = windows_of r axes in
    let stay : List ℤ → Bool = λ q. stays axes p q in
    let there : List ℤ → ℤ = λ q. a (moved p q) in
    let test : Typed = binary binaries.And (binary binaries.And (edge_tree first_moved x) (binary binaries.GreaterEqual second_moved (literal y.lo))) (binary binaries.LessEqual second_moved (literal y.hi)) in
    let body : Typed = bracket (located ta 0 axes (first_moved ∷ second_moved ∷ [])) in
    let at : (q : List ℤ) → IsInside windows q → AtOffset s ta a x y p q = λ q h. at-offset s ta a ra x y r few sx sy ordered p q inside h in
    ap (condensed (condenser_of op)) (kept stay there (λ q. val s test (p ++ q) []) (λ q. val s body (p ++ q) []) (points windows)
    (every-of (IsInside windows) (λ (q : List ℤ). val s test (p ++ q) [] ≡ truth (stay q)) (points windows) (λ q h. (at q h).test) (points-inside windows (windows-ordered r axes)))
    (every-of (IsInside windows) (λ (q : List ℤ). stay q ≡ true → val s body (p ++ q) [] ≡ Value (there q)) (points windows) (λ q h. (at q h).body) (points-inside windows (windows-ordered r axes))))
    ∙ condensed-values (condenser_of op) (map there (filter stay (points windows)))
    ∙ ap (combined (condenser_of op)) (sym (map-map a (moved p) (filter stay (points windows))) ∙ ap (map a) (moved-windows axes r p ordered inside))
    ∙ combined-summary op (map a (filter (are_near r p) (points axes))) (some-location axes p (are_near r p) a inside (near-same r axes p inside))
    (every-map (λ (v : ℤ). fits_64 v ≡ true) a (filter (are_near r p) (points axes)) (every-all (λ (q : List ℤ). fits_64 (a q) ≡ true) (filter (are_near r p) (points axes)) fits))
