-- Points axis by axis: the offsets of a window reach the locations near its centre.
use Rattle.std.proofs.Common.{◌≡◌, ℕ, zero, suc, ◌+◌, ℤ, pos, ◌+ℤ◌, ◌≤ℤ◌, nat_le, List, [], ◌∷◌, ◌++◌, map, filter, flat_map, Bool, true, false, cond, ◌&&◌, refl, ap, sym, ◌∙◌, subst, arith}
use Rattle.std.proofs.lemmas.Int.{ints}
use Rattle.arr_core.specs.declared.domain.Axis.{Axis}
use Rattle.arr_core.specs.Domains.{gap, size_of, coordinates, points, AreOrdered, IsInside}
use Rattle.arr_core.proofs.Points.{lo-add-gap}
use Rattle.map_templates.specs.Tomlin.{are_near}
use Rattle.map_templates.specs.TypedTrees.{window_of, windows_of}
use Rattle.map_templates.proofs.Sets.{Every, every-append, every-map, every-of, filter-append', map-append'}
use Rattle.map_templates.proofs.Windows.{run, coordinates-run, is_on, moved-window}

-- each of the first before each of the second
abbrev pub product : List ℤ → List (List ℤ) → List (List ℤ)
product xs ps = flat_map (λ x. map (λ p. x ∷ p) ps) xs

filter-front : (t g : List ℤ → Bool) (f : ℤ → Bool) → ((x : ℤ) (p : List ℤ) → t (x ∷ p) ≡ (f x && g p)) → (x : ℤ) (ps : List (List ℤ)) (b : Bool) → f x ≡ b
    → filter t (map (λ p. x ∷ p) ps) ≡ cond b (map (λ p. x ∷ p) (filter g ps)) []
filter-front t g f e x [] true is = refl
filter-front t g f e x [] false is = refl
filter-front t g f e x (p ∷ ps) true is = rw (e x p, is) (pick (g p) (filter-front t g f e x ps true is))
  where
    pick : (c : Bool) → filter t (map (λ (q : List ℤ). x ∷ q) ps) ≡ map (λ (q : List ℤ). x ∷ q) (filter g ps)
        → cond c ((x ∷ p) ∷ filter t (map (λ (q : List ℤ). x ∷ q) ps)) (filter t (map (λ (q : List ℤ). x ∷ q) ps)) ≡ map (λ (q : List ℤ). x ∷ q) (cond c (p ∷ filter g ps) (filter g ps))
    pick true more = ap (λ (rest : List (List ℤ)). (x ∷ p) ∷ rest) more
    pick false more = more
filter-front t g f e x (p ∷ ps) false is = rw (e x p, is) (filter-front t g f e x ps false is)

pub filter-product : (t g : List ℤ → Bool) (f : ℤ → Bool) → ((x : ℤ) (p : List ℤ) → t (x ∷ p) ≡ (f x && g p)) → (xs : List ℤ) (ps : List (List ℤ))
    → filter t (product xs ps) ≡ product (filter f xs) (filter g ps)
filter-product t g f e [] ps = refl
filter-product t g f e (x ∷ xs) ps = filter-append' t (map (λ (p : List ℤ). x ∷ p) ps) (product xs ps) ∙ pick (f x) refl (filter-product t g f e xs ps)
  where
    pick : (b : Bool) → f x ≡ b → filter t (product xs ps) ≡ product (filter f xs) (filter g ps)
        → filter t (map (λ (p : List ℤ). x ∷ p) ps) ++ filter t (product xs ps) ≡ product (cond b (x ∷ filter f xs) (filter f xs)) (filter g ps)
    pick true is more = ap (λ (rest : List (List ℤ)). rest ++ filter t (product xs ps)) (filter-front t g f e x ps true is) ∙ ap (λ (rest : List (List ℤ)). map (λ (p : List ℤ). x ∷ p) (filter g ps) ++ rest) more
    pick false is more = ap (λ (rest : List (List ℤ)). rest ++ filter t (product xs ps)) (filter-front t g f e x ps false is) ∙ more

map-front : (m k : List ℤ → List ℤ) (h : ℤ → ℤ) → ((x : ℤ) (p : List ℤ) → m (x ∷ p) ≡ h x ∷ k p) → (x : ℤ) (qs : List (List ℤ))
    → map m (map (λ (p : List ℤ). x ∷ p) qs) ≡ map (λ (p : List ℤ). h x ∷ p) (map k qs)
map-front m k h e x [] = refl
map-front m k h e x (q ∷ qs) = ap (λ (p : List ℤ). p ∷ map m (map (λ (p : List ℤ). x ∷ p) qs)) (e x q) ∙ ap (λ (rest : List (List ℤ)). (h x ∷ k q) ∷ rest) (map-front m k h e x qs)

pub map-product : (m k : List ℤ → List ℤ) (h : ℤ → ℤ) → ((x : ℤ) (p : List ℤ) → m (x ∷ p) ≡ h x ∷ k p) → (xs : List ℤ) (ps : List (List ℤ))
    → map m (product xs ps) ≡ product (map h xs) (map k ps)
map-product m k h e [] ps = refl
map-product m k h e (x ∷ xs) ps =
    map-append' m (map (λ (p : List ℤ). x ∷ p) ps) (product xs ps)
    ∙ ap (λ (rest : List (List ℤ)). rest ++ map m (product xs ps)) (map-front m k h e x ps)
    ∙ ap (λ (rest : List (List ℤ)). map (λ (p : List ℤ). h x ∷ p) (map k ps) ++ rest) (map-product m k h e xs ps)

pub every-product : (A : ℤ → Type 0) (B P : List ℤ → Type 0) → ((x : ℤ) (p : List ℤ) → A x → B p → P (x ∷ p)) → (xs : List ℤ) (ps : List (List ℤ)) → Every A xs → Every B ps → Every P (product xs ps)
every-product A B P f [] ps a b = tt
every-product A B P f (x ∷ xs) ps a b =
    every-append P (map (λ p. x ∷ p) ps) (product xs ps) (every-map P (λ p. x ∷ p) ps (every-of B (λ (p : List ℤ). P (x ∷ p)) ps (λ p h. f x p a.0 h) b)) (every-product A B P f xs ps a.1 b)

-- ---- points are inside

run-between : (z : ℤ) (n : ℕ) (lo hi : ℤ) → lo ≤ℤ z → (z +ℤ pos n) ≤ℤ (hi +ℤ pos 1) → Every (λ x. (lo ≤ℤ x) × (x ≤ℤ hi)) (run z n)
run-between z zero lo hi a b = tt
run-between z (suc n) lo hi a b = ((a, omega (arith, ints)), run-between (z +ℤ pos 1) n lo hi (omega (arith, ints)) (omega (arith, ints)))

coordinates-on : (a : Axis) → a.lo ≤ℤ a.hi → Every (λ x. (a.lo ≤ℤ x) × (x ≤ℤ a.hi)) (coordinates a)
coordinates-on a ordered =
    subst (λ (xs : List ℤ). Every (λ x. (a.lo ≤ℤ x) × (x ≤ℤ a.hi)) xs) (sym (coordinates-run a))
    (run-between a.lo (size_of a) a.lo a.hi (omega (arith, ints)) (last (lo-add-gap a.lo a.hi ordered)))
  where
    last : a.lo +ℤ pos (gap a.lo a.hi) ≡ a.hi → (a.lo +ℤ pos (gap a.lo a.hi + 1)) ≤ℤ (a.hi +ℤ pos 1)
    last e = omega (arith, ints)

pub points-inside : (axes : List Axis) → AreOrdered axes → Every (IsInside axes) (points axes)
points-inside [] h = (tt, tt)
points-inside (a ∷ axes) h =
    every-product (λ (x : ℤ). (a.lo ≤ℤ x) × (x ≤ℤ a.hi)) (IsInside axes) (IsInside (a ∷ axes)) (λ x p on inside. (on.0, on.1, inside)) (coordinates a) (points axes) (coordinates-on a h.0) (points-inside axes h.1)

-- ---- windows

-- a point moved by offsets
abbrev pub moved : List ℤ → List ℤ → List ℤ
moved [] x = []
moved (c ∷ p) [] = []
moved (c ∷ p) (u ∷ x) = (c +ℤ u) ∷ moved p x

-- it stays on each axis
abbrev pub stays : List Axis → List ℤ → List ℤ → Bool
stays [] p x = true
stays (a ∷ axes) [] x = false
stays (a ∷ axes) (c ∷ p) [] = false
stays (a ∷ axes) (c ∷ p) (u ∷ x) = is_on a (c +ℤ u) && stays axes p x

pub moved-windows : (axes : List Axis) (r : ℕ) (p : List ℤ) → AreOrdered axes → IsInside axes p
    → map (moved p) (filter (stays axes p) (points (windows_of r axes))) ≡ filter (are_near r p) (points axes)
moved-windows [] r [] ordered inside = refl
moved-windows [] r (c ∷ p) ordered inside = absurd inside
moved-windows (a ∷ axes) r [] ordered inside = absurd inside
moved-windows (a ∷ axes) r (c ∷ p) ordered inside =
    ap (map (moved (c ∷ p))) (filter-product (stays (a ∷ axes) (c ∷ p)) (stays axes p) (λ u. is_on a (c +ℤ u)) (λ u x. refl) (coordinates (window_of r a)) (points (windows_of r axes)))
    ∙ map-product (moved (c ∷ p)) (moved p) (λ u. c +ℤ u) (λ u x. refl) (filter (λ u. is_on a (c +ℤ u)) (coordinates (window_of r a))) (filter (stays axes p) (points (windows_of r axes)))
    ∙ ap (λ (xs : List ℤ). product xs (map (moved p) (filter (stays axes p) (points (windows_of r axes))))) (moved-window a c r ordered.0)
    ∙ ap (product (filter (λ x. nat_le (gap c x) r) (coordinates a))) (moved-windows axes r p ordered.1 inside.2)
    ∙ sym (filter-product (are_near r (c ∷ p)) (are_near r p) (λ x. nat_le (gap c x) r) (λ x q. refl) (coordinates a) (points axes))
