-- What the points of the tiles of a box give, one tile after the other, is what the box's points give in another order.
use Rattle.std.proofs.Common.{◌≡◌, ℕ, zero, suc, ◌+◌, ◌-◌, ◌*◌, ◌/◌, ◌<◌, ◌≤◌, List, [], ◌∷◌, ◌++◌, map, refl, sym, ap, ◌∙◌, subst, arith, append_assoc, append-nil, ◌%◌}
use Rattle.std.specs.Prelude.{ℤ, pos, ◌+ℤ◌, ◌*ℤ◌, ◌≤ℤ◌}
use Rattle.std.specs.List.{flat_map, range_with_len}
use Rattle.std.specs.List.Sorted.{IsPermutation}
use Rattle.std.proofs.Math.Nat.{mul-le-mul_right, div-mul-le_self}
use Rattle.std.proofs.Common.{mod-lt}
use Rattle.std.proofs.lemmas.Nat.{div-add-mod'}
use Rattle.std.proofs.lemmas.Int.{ints}
use Rattle.std.proofs.lemmas.Grind.{flat_map-append}
use Rattle.std.proofs.lemmas.List.Folds.{flat_map-map}
use Rattle.std.proofs.lemmas.List.Sorted.{IsPermutation-refl, IsPermutation-trans, IsPermutation-append, IsPermutation-append_comm, IsPermutation-append_left, IsPermutation-append_right}
use Rattle.arr_core.specs.declared.domain.Axis.{Axis}
use Rattle.arr_core.specs.Domains.{gap, size_of, coordinates, points, AreOrdered}
use Rattle.arr_core.specs.Tiles.{grid, part_of, box_at}
use Rattle.arr_core.proofs.Grids.{cell_of, size-cell, pos-mul}

-- equal lists are in one order
pub same_order : {X : Type 0} (xs ys : List X) → xs ≡ ys → IsPermutation xs ys
same_order xs ys e = subst (IsPermutation xs) e (IsPermutation-refl xs)

-- two lists, each between two others
cross : {X : Type 0} (a b c d : List X) → IsPermutation ((a ++ b) ++ (c ++ d)) ((a ++ c) ++ (b ++ d))
cross a b c d =
    let inner : IsPermutation ((b ++ c) ++ d) ((c ++ b) ++ d) = IsPermutation-append_left d (b ++ c) (c ++ b) (IsPermutation-append_comm b c) in
    let whole : IsPermutation (a ++ ((b ++ c) ++ d)) (a ++ ((c ++ b) ++ d)) = IsPermutation-append_right a ((b ++ c) ++ d) ((c ++ b) ++ d) inner in
    let l : a ++ ((b ++ c) ++ d) ≡ (a ++ b) ++ (c ++ d) = grind (arith, append_assoc) in
    let r : a ++ ((c ++ b) ++ d) ≡ (a ++ c) ++ (b ++ d) = grind (arith, append_assoc) in
    subst (λ z. IsPermutation z ((a ++ c) ++ (b ++ d))) l (subst (IsPermutation (a ++ ((b ++ c) ++ d))) r whole)

-- each part in another order
flat_map_reordered : {X Y : Type 0} (f g : X → List Y) (xs : List X) → ((x : X) → IsPermutation (f x) (g x)) → IsPermutation (flat_map f xs) (flat_map g xs)
flat_map_reordered f g [] h = IsPermutation-refl []
flat_map_reordered f g (x ∷ xs) h = IsPermutation-append (f x) (g x) (flat_map f xs) (flat_map g xs) (h x) (flat_map_reordered f g xs h)

pub flat_map_same : {X Y : Type 0} (f g : X → List Y) (xs : List X) → ((x : X) → f x ≡ g x) → flat_map f xs ≡ flat_map g xs
flat_map_same f g [] h = refl
flat_map_same f g (x ∷ xs) h = ap (λ l. l ++ flat_map f xs) (h x) ∙ ap (λ l. g x ++ l) (flat_map_same f g xs h)

flat_map_empty : {X Y : Type 0} (f : X → List Y) (xs : List X) → ((x : X) → f x ≡ []) → flat_map f xs ≡ []
flat_map_empty f [] h = refl
flat_map_empty f (x ∷ xs) h = ap (λ l. l ++ flat_map f xs) (h x) ∙ flat_map_empty f xs h

flat_map_both : {X Y : Type 0} (f g : X → List Y) (xs : List X) → IsPermutation (flat_map f xs ++ flat_map g xs) (flat_map (λ x. f x ++ g x) xs)
flat_map_both f g [] = IsPermutation-refl []
flat_map_both f g (x ∷ xs) =
    let all = flat_map (λ y. f y ++ g y) xs in
    let step = IsPermutation-append_right (f x ++ g x) (flat_map f xs ++ flat_map g xs) all (flat_map_both f g xs) in
    IsPermutation-trans ((f x ++ flat_map f xs) ++ (g x ++ flat_map g xs)) ((f x ++ g x) ++ (flat_map f xs ++ flat_map g xs)) ((f x ++ g x) ++ all) (cross (f x) (flat_map f xs) (g x) (flat_map g xs)) step

-- which of two lists is gone through first changes the order alone
flat_map_exchange : {X Y Z : Type 0} (f : X → Y → List Z) (xs : List X) (ys : List Y) → IsPermutation (flat_map (λ x. flat_map (f x) ys) xs) (flat_map (λ y. flat_map (λ x. f x y) xs) ys)
flat_map_exchange f [] ys = same_order [] (flat_map (λ y. flat_map (λ x. f x y) []) ys) (sym (flat_map_empty (λ y. flat_map (λ x. f x y) []) ys (λ y. refl)))
flat_map_exchange f (x ∷ xs) ys =
    let rest = flat_map (λ z. flat_map (f z) ys) xs in
    let turned = flat_map (λ y. flat_map (λ z. f z y) xs) ys in
    let step = IsPermutation-append_right (flat_map (f x) ys) rest turned (flat_map_exchange f xs ys) in
    IsPermutation-trans (flat_map (f x) ys ++ rest) (flat_map (f x) ys ++ turned) (flat_map (λ y. f x y ++ flat_map (λ z. f z y) xs) ys) step (flat_map_both (f x) (λ y. flat_map (λ z. f z y) xs) ys)

pub flat_map_nested : {X Y Z : Type 0} (g : Y → List Z) (f : X → List Y) (xs : List X) → flat_map g (flat_map f xs) ≡ flat_map (λ x. flat_map g (f x)) xs
flat_map_nested g f [] = refl
flat_map_nested g f (x ∷ xs) = flat_map-append g (f x) (flat_map f xs) ∙ ap (λ l. flat_map g (f x) ++ l) (flat_map_nested g f xs)

-- a run of numbers, in two
run_split : {X : Type 0} (f : ℕ → X) (a b m n k : ℕ) → b ≡ a + m → k ≡ m + n → map f (range_with_len a m) ++ map f (range_with_len b n) ≡ map f (range_with_len a k)
run_split f a b zero n k e s =
    let same : b ≡ a = omega (arith, e) in
    let long : n ≡ k = omega (arith, s) in
    ap (λ c. map f (range_with_len c n)) same ∙ ap (λ c. map f (range_with_len a c)) long
run_split f a b (suc m) n zero e s = absurd (omega (arith, s))
run_split f a b (suc m) n (suc k) e s = ap (λ l. f a ∷ l) (run_split f (a + 1) b m n k (omega (arith, e)) (omega (arith, s)))

-- a run of coordinates from a later start
run_moved : (lo : ℤ) (c d n : ℕ) → map (λ i. (lo +ℤ pos c) +ℤ pos i) (range_with_len d n) ≡ map (λ i. lo +ℤ pos i) (range_with_len (c + d) n)
run_moved lo c d zero = refl
run_moved lo c d (suc n) =
    let here : ((lo +ℤ pos c) +ℤ pos d) ≡ (lo +ℤ pos (c + d)) = omega (arith, ints) in
    let next : c + (d + 1) ≡ (c + d) + 1 = omega arith in
    let rest : map (λ i. (lo +ℤ pos c) +ℤ pos i) (range_with_len (d + 1) n) ≡ map (λ i. lo +ℤ pos i) (range_with_len ((c + d) + 1) n) = run_moved lo c (d + 1) n ∙ ap (λ s. map (λ i. lo +ℤ pos i) (range_with_len s n)) next in
    ap (λ z. z ∷ map (λ i. (lo +ℤ pos c) +ℤ pos i) (range_with_len (d + 1) n)) here ∙ ap (λ l. (lo +ℤ pos (c + d)) ∷ l) rest

-- the coordinates of a part, as those of the axis
part_run : (edge : ℕ) (a : Axis) (m n : ℕ) → n ≡ size_of (part_of edge a (pos m)) → coordinates (part_of edge a (pos m)) ≡ map (λ i. a.lo +ℤ pos i) (range_with_len (m * edge) n)
part_run edge a m n e =
    let start : m * edge + 0 ≡ m * edge = omega arith in
    ap (λ s. map (λ i. (a.lo +ℤ pos (m * edge)) +ℤ pos i) (range_with_len 0 s)) (sym e)
    ∙ run_moved a.lo (m * edge) 0 n
    ∙ ap (λ s. map (λ i. a.lo +ℤ pos i) (range_with_len s n)) start

-- a part that is not the last is as long as the edge, and the last one ends with the axis
full_part : (edge : ℕ) (a : Axis) (m : ℕ) → 0 < edge → a.lo ≤ℤ a.hi → (m + 1) * edge ≤ gap a.lo a.hi → edge ≡ size_of (part_of edge a (pos m))
full_part edge a m some o h =
    let at : pos m *ℤ pos edge ≡ pos (m * edge) = pos-mul m edge in
    let more : (m + 1) * edge ≡ m * edge + edge = omega arith in
    let end : (part_of edge a (pos m)).hi ≡ ((a.lo +ℤ pos (m * edge)) +ℤ pos (edge - 1)) = grind (arith, ints) in
    omega (arith, ints)

last_part : (edge : ℕ) (a : Axis) (m : ℕ) → 0 < edge → a.lo ≤ℤ a.hi → m * edge ≤ gap a.lo a.hi → gap a.lo a.hi < m * edge + edge → (gap a.lo a.hi + 1) - m * edge ≡ size_of (part_of edge a (pos m))
last_part edge a m some o h k =
    let at : pos m *ℤ pos edge ≡ pos (m * edge) = pos-mul m edge in
    let end : (part_of edge a (pos m)).hi ≡ a.hi = grind (arith, ints) in
    omega (arith, ints)

-- the coordinates of m + 1 parts, of the j-th and those behind it, up to the axis's end
runs : (edge : ℕ) (a : Axis) (j m : ℕ) → 0 < edge → a.lo ≤ℤ a.hi → j + m ≡ gap a.lo a.hi / edge → flat_map (λ i. coordinates (part_of edge a (pos i))) (range_with_len j (suc m)) ≡ map (λ i. a.lo +ℤ pos i) (range_with_len (j * edge) ((gap a.lo a.hi + 1) - j * edge))
runs edge a j zero some o e =
    let g = gap a.lo a.hi in
    let q : g / edge ≡ j = omega (arith, e) in
    let split : g / edge * edge + g % edge ≡ g = div-add-mod' g edge in
    let split2 : j * edge + g % edge ≡ g = subst (λ k. k * edge + g % edge ≡ g) q split in
    let r : g % edge < edge = mod-lt g some in
    let long = last_part edge a j some o (omega (arith, split2)) (omega (arith, split2, r)) in
    append-nil (coordinates (part_of edge a (pos j))) ∙ part_run edge a j ((g + 1) - j * edge) long
runs edge a j (suc m) some o e =
    let g = gap a.lo a.hi in
    let q : (j + 1) + m ≡ g / edge = omega (arith, e) in
    let below : (j + 1) * edge ≤ g / edge * edge = mul-le-mul_right edge (let h : j + 1 ≤ g / edge = omega (arith, q) in h) in
    let whole : g / edge * edge ≤ g = div-mul-le_self g edge in
    let fits : (j + 1) * edge ≤ g = omega (arith, below, whole) in
    let next : (j + 1) * edge ≡ j * edge + edge = omega arith in
    let first = part_run edge a j edge (full_part edge a j some o fits) in
    let rest = runs edge a (j + 1) m some o q in
    let f : ℕ → ℤ = λ i. a.lo +ℤ pos i in
    ap (λ l. l ++ flat_map (λ i. coordinates (part_of edge a (pos i))) (range_with_len (j + 1) (suc m))) first
    ∙ ap (λ l. map f (range_with_len (j * edge) edge) ++ l) rest
    ∙ run_split f (j * edge) ((j + 1) * edge) edge ((g + 1) - (j + 1) * edge) ((g + 1) - j * edge) next (omega (arith, next, fits))

-- the parts of an axis, one after the other, have its coordinates in their order
parts_in_order : (edge : ℕ) (a : Axis) → 0 < edge → a.lo ≤ℤ a.hi → flat_map (λ k. coordinates (part_of edge a k)) (coordinates (cell_of edge a)) ≡ coordinates a
parts_in_order edge a some o =
    let g = gap a.lo a.hi in
    let n : size_of (cell_of edge a) ≡ suc (g / edge) = omega (arith, size-cell edge a) in
    let start : 0 * edge ≡ 0 = omega arith in
    let whole : (g + 1) - 0 ≡ g + 1 = omega arith in
    let at : (i : ℕ) → (pos 0 +ℤ pos i) ≡ pos i = λ i. omega (arith, ints) in
    flat_map-map (λ k. coordinates (part_of edge a k)) (λ i. pos 0 +ℤ pos i) (range_with_len 0 (size_of (cell_of edge a)))
    ∙ flat_map_same (λ i. coordinates (part_of edge a (pos 0 +ℤ pos i))) (λ i. coordinates (part_of edge a (pos i))) (range_with_len 0 (size_of (cell_of edge a))) (λ i. ap (λ k. coordinates (part_of edge a k)) (at i))
    ∙ ap (λ s. flat_map (λ i. coordinates (part_of edge a (pos i))) (range_with_len 0 s)) n
    ∙ runs edge a 0 (g / edge) some o (omega arith)
    ∙ ap (λ s. map (λ i. a.lo +ℤ pos i) (range_with_len s ((g + 1) - s))) start
    ∙ ap (λ s. map (λ i. a.lo +ℤ pos i) (range_with_len 0 s)) whole

-- what the points of the boxes of the tiles give, one after the other, is what the points give in another order
pub tiles_reordered : {Y : Type 0} (g : List ℤ → List Y) (edge : ℕ) (axes : List Axis) → 0 < edge → AreOrdered axes → IsPermutation (flat_map (λ t. flat_map g (points (box_at edge axes t))) (points (grid edge axes))) (flat_map g (points axes))
tiles_reordered g edge [] some o = same_order ((g [] ++ []) ++ []) (g [] ++ []) (append-nil (g [] ++ []))
tiles_reordered g edge (a ∷ axes) some o =
    let cells = points (grid edge axes) in
    let part = λ (k : ℤ). coordinates (part_of edge a k) in
    let steps = coordinates (cell_of edge a) in
    let inner = λ (x : ℤ) (t : List ℤ). flat_map (λ p. g (x ∷ p)) (points (box_at edge axes t)) in
    let sorted = λ (x : ℤ). flat_map (λ p. g (x ∷ p)) (points axes) in
    let whole = λ (t : List ℤ). flat_map g (points (box_at edge (a ∷ axes) t)) in
    let by_tile = λ (k : ℤ). flat_map (λ t. flat_map (λ x. inner x t) (part k)) cells in
    let by_place = λ (k : ℤ). flat_map (λ x. flat_map (inner x) cells) (part k) in
    let in_place = λ (k : ℤ). flat_map sorted (part k) in
    let box : (k : ℤ) (t : List ℤ) → whole (k ∷ t) ≡ flat_map (λ x. inner x t) (part k) = λ k t.
    flat_map_nested g (λ x. map (λ p. x ∷ p) (points (box_at edge axes t))) (part k)
    ∙ flat_map_same (λ x. flat_map g (map (λ p. x ∷ p) (points (box_at edge axes t)))) (λ x. inner x t) (part k) (λ x. flat_map-map g (λ p. x ∷ p) (points (box_at edge axes t))) in
    let opened : flat_map whole (points (grid edge (a ∷ axes))) ≡ flat_map by_tile steps =
    flat_map_nested whole (λ k. map (λ t. k ∷ t) cells) steps
    ∙ flat_map_same (λ k. flat_map whole (map (λ t. k ∷ t) cells)) by_tile steps (λ k. flat_map-map whole (λ t. k ∷ t) cells ∙ flat_map_same (λ t. whole (k ∷ t)) (λ t. flat_map (λ x. inner x t) (part k)) cells (box k)) in
    let turned = flat_map_reordered by_tile by_place steps (λ k. flat_map_exchange (λ t x. inner x t) cells (part k)) in
    let settled = flat_map_reordered by_place in_place steps (λ k. flat_map_reordered (λ x. flat_map (inner x) cells) sorted (part k) (λ x. tiles_reordered (λ p. g (x ∷ p)) edge axes some o.1)) in
    let closed : flat_map in_place steps ≡ flat_map g (points (a ∷ axes)) =
    sym (flat_map_nested sorted part steps) ∙ ap (flat_map sorted) (parts_in_order edge a some o.0)
    ∙ sym (flat_map_nested g (λ x. map (λ p. x ∷ p) (points axes)) (coordinates a) ∙ flat_map_same (λ x. flat_map g (map (λ p. x ∷ p) (points axes))) sorted (coordinates a) (λ x. flat_map-map g (λ p. x ∷ p) (points axes))) in
    subst (λ l. IsPermutation l (flat_map g (points (a ∷ axes)))) (sym opened)
    (subst (IsPermutation (flat_map by_tile steps)) closed (IsPermutation-trans (flat_map by_tile steps) (flat_map by_place steps) (flat_map in_place steps) turned settled))
