-- The places of a part's points, row by row.
use Rattle.std.proofs.Common.{◌≡◌, ℕ, zero, suc, ◌+◌, ◌*◌, ◌<◌, ◌≤◌, ◌^◌, List, [], ◌∷◌, ◌++◌, length, map, ℤ, pos, ◌+ℤ◌, refl, sym, ap, ◌∙◌, subst, arith, append_assoc, append-nil, map-id}
use Rattle.std.specs.Prelude.{◌≤ℤ◌}
use Rattle.std.specs.List.{flat_map, range_with_len}
use Rattle.std.proofs.Math.Nat.{suc-mul, mul-le-mul_right}
use Rattle.std.proofs.lemmas.Int.{ints}
use Rattle.std.proofs.lemmas.List.FromFn.{map-range_with_len_more}
use Rattle.std.proofs.lemmas.List.Folds.{flat_map-map}
use Rattle.std.proofs.lemmas.Grind.{flat_map-append}
use Rattle.arr_core.specs.declared.domain.Axis.{Axis}
use Rattle.arr_core.specs.Domains.{gap, size_of, coordinates, points, count, AreOrdered, IsBoxOf, rank_of}
use Rattle.tile_columns.proofs.Ranges.{map_map}

-- ---- one more place

range_end : (a n : ℕ) → range_with_len a (n + 1) ≡ range_with_len a n ++ (a + n) ∷ []
range_end a n = sym (map-id (range_with_len a (n + 1))) ∙ map-range_with_len_more (λ k. k) a n (a + n) refl ∙ ap (λ l. l ++ (a + n) ∷ []) (map-id (range_with_len a n))

pub run_more : (before list new : List ℕ) (first k : ℕ) → list ≡ before ++ range_with_len first k → new ≡ list ++ (first + k) ∷ [] → new ≡ before ++ range_with_len first (k + 1)
run_more before list new first k l n =
    n ∙ ap (λ l. l ++ (first + k) ∷ []) l ∙ append_assoc before (range_with_len first k) ((first + k) ∷ []) ∙ ap (λ l. before ++ l) (sym (range_end first k))

-- ---- one more row

pub flat_more : {Y : Type 0} (f : ℕ → List Y) (n : ℕ) → flat_map f (range_with_len 0 (n + 1)) ≡ flat_map f (range_with_len 0 n) ++ f n
flat_more f n =
    let e : 0 + n ≡ n = omega arith in
    ap (flat_map f) (range_end 0 n ∙ ap (λ k. range_with_len 0 n ++ k ∷ []) e) ∙ flat_map-append f (range_with_len 0 n) (n ∷ []) ∙ ap (λ l. flat_map f (range_with_len 0 n) ++ l) (append-nil (f n))

pub rows_more : (f : ℕ → List ℕ) (before list new : List ℕ) (k : ℕ) → list ≡ before ++ flat_map f (range_with_len 0 k) → new ≡ list ++ f k → new ≡ before ++ flat_map f (range_with_len 0 (k + 1))
rows_more f before list new k l n =
    n ∙ ap (λ l. l ++ f k) l ∙ append_assoc before (flat_map f (range_with_len 0 k)) (f k) ∙ ap (λ l. before ++ l) (sym (flat_more f k))

-- ---- all rows

pub map_same : {X Y : Type 0} (f g : X → Y) (xs : List X) → ((x : X) → f x ≡ g x) → map f xs ≡ map g xs
map_same f g [] h = refl
map_same f g (x ∷ xs) h = ap (λ y. y ∷ map f xs) (h x) ∙ ap (λ l. g x ∷ l) (map_same f g xs h)

map_both : {Y Z : Type 0} (h : Y → Z) (ys zs : List Y) → map h (ys ++ zs) ≡ map h ys ++ map h zs
map_both h [] zs = refl
map_both h (y ∷ ys) zs = ap (λ l. h y ∷ l) (map_both h ys zs)

pub map_flat : {X Y Z : Type 0} (h : Y → Z) (f : X → List Y) (xs : List X) → map h (flat_map f xs) ≡ flat_map (λ x. map h (f x)) xs
map_flat h f [] = refl
map_flat h f (x ∷ xs) = map_both h (f x) (flat_map f xs) ∙ ap (λ l. map h (f x) ++ l) (map_flat h f xs)

flat_same : {X Y : Type 0} (f g : X → List Y) (xs : List X) → ((x : X) → f x ≡ g x) → flat_map f xs ≡ flat_map g xs
flat_same f g [] h = refl
flat_same f g (x ∷ xs) h = ap (λ l. l ++ flat_map f xs) (h x) ∙ ap (λ l. g x ++ l) (flat_same f g xs h)

row_place : (a b : Axis) (area : List Axis) (first k : ℕ) (p : List ℤ) → a.lo ≤ℤ b.lo
    → first + (gap a.lo (b.lo +ℤ pos k) * count area + rank_of area p) ≡ (first + (gap a.lo b.lo + k) * count area) + rank_of area p
row_place a b area first k p low =
    let g : gap a.lo (b.lo +ℤ pos k) ≡ gap a.lo b.lo + k = omega (arith, ints, low) in
    ap (λ n. first + (n * count area + rank_of area p)) g ∙ omega arith

rows_of : (a b : Axis) (area part : List Axis) (first : ℕ) → a.lo ≤ℤ b.lo
    → flat_map (λ k. map (λ p. (first + (gap a.lo b.lo + k) * count area) + rank_of area p) (points part)) (range_with_len 0 (size_of b)) ≡ map (λ p. first + rank_of (a ∷ area) p) (points (b ∷ part))
rows_of a b area part first low =
    let f : List ℤ → ℕ = λ p. first + rank_of (a ∷ area) p in
    let row : ℤ → List (List ℤ) = λ x. map (λ p. x ∷ p) (points part) in
    let here : ℕ → List ℕ = λ k. map (λ p. (first + (gap a.lo b.lo + k) * count area) + rank_of area p) (points part) in
    sym (map_flat f row (coordinates b)
    ∙ flat_map-map (λ x. map f (row x)) (λ i. b.lo +ℤ pos i) (range_with_len 0 (size_of b))
    ∙ flat_same (λ i. map f (row (b.lo +ℤ pos i))) here (range_with_len 0 (size_of b))
    (λ k. map_map f (λ p. (b.lo +ℤ pos k) ∷ p) (points part) ∙ map_same (λ p. f ((b.lo +ℤ pos k) ∷ p)) (λ p. (first + (gap a.lo b.lo + k) * count area) + rank_of area p) (points part) (λ p. row_place a b area first k p low)))

pub all_rows : (box part area rest : List Axis) (a b : Axis) (first skipped row rows : ℕ) → box ≡ a ∷ area → part ≡ b ∷ rest → skipped ≡ gap a.lo b.lo → row ≡ count area → rows ≡ size_of b → a.lo ≤ℤ b.lo
    → flat_map (λ k. map (λ p. (first + (skipped + k) * row) + rank_of area p) (points rest)) (range_with_len 0 rows) ≡ map (λ p. first + rank_of box p) (points part)
all_rows box part area rest a b first skipped row rows box_is part_is s r n low =
    ap (λ g. flat_map (λ k. map (λ p. (first + (g + k) * row) + rank_of area p) (points rest)) (range_with_len 0 rows)) s
    ∙ ap (λ c. flat_map (λ k. map (λ p. (first + (gap a.lo b.lo + k) * c) + rank_of area p) (points rest)) (range_with_len 0 rows)) r
    ∙ ap (λ m. flat_map (λ k. map (λ p. (first + (gap a.lo b.lo + k) * count area) + rank_of area p) (points rest)) (range_with_len 0 m)) n
    ∙ rows_of a b area rest first low
    ∙ ap (λ l. map (λ p. first + rank_of l p) (points (b ∷ rest))) (sym box_is)
    ∙ ap (λ l. map (λ p. first + rank_of box p) (points l)) (sym part_is)

-- ---- the last axis

singles : (f : ℕ → ℕ) (xs : List ℕ) → flat_map (λ k. f k ∷ []) xs ≡ map f xs
singles f [] = refl
singles f (x ∷ xs) = ap (λ l. f x ∷ l) (singles f xs)

counted : (f : ℕ → ℕ) (m n : ℕ) → ((k : ℕ) → f k ≡ m + k) → map f (range_with_len 0 n) ≡ range_with_len m n
counted f m zero h = refl
counted f m (suc n) h =
    let e : suc n ≡ n + 1 = omega arith in
    let z : 0 + n ≡ n = omega arith in
    ap (λ j. map f (range_with_len 0 j)) e ∙ map-range_with_len_more f 0 n n z
    ∙ ap (λ l. l ++ f n ∷ []) (counted f m n h) ∙ ap (λ x. range_with_len m n ++ x ∷ []) (h n) ∙ sym (range_end m n) ∙ ap (range_with_len m) (sym e)

last_row : (a b : Axis) (area rest : List Axis) (first : ℕ) → length area ≡ 0 → IsBoxOf (a ∷ area) (b ∷ rest) → range_with_len (first + gap a.lo b.lo) (size_of b) ≡ map (λ p. first + rank_of (a ∷ area) p) (points (b ∷ rest))
last_row a b [] [] first z h =
    let w = h.0 in
    let f : ℕ → ℕ = λ k. (first + (gap a.lo b.lo + k) * 1) + 0 in
    sym (counted f (first + gap a.lo b.lo) (size_of b) (λ k. omega arith)) ∙ sym (singles f (range_with_len 0 (size_of b))) ∙ rows_of a b [] [] first w.1
last_row a b [] (c ∷ rest) first z h = absurd h.1
last_row a b (c ∷ area) rest first z h = absurd (omega (arith, z))

pub last_axis : (box part area rest : List Axis) (a b : Axis) (first skipped rows : ℕ) → box ≡ a ∷ area → part ≡ b ∷ rest → skipped ≡ gap a.lo b.lo → rows ≡ size_of b → length area ≡ 0 → IsBoxOf box part
    → range_with_len (first + skipped) rows ≡ map (λ p. first + rank_of box p) (points part)
last_axis box part area rest a b first skipped rows box_is part_is s n z h =
    ap (λ g. range_with_len (first + g) rows) s ∙ ap (range_with_len (first + gap a.lo b.lo)) n
    ∙ last_row a b area rest first z (subst (IsBoxOf (a ∷ area)) part_is (subst (λ l. IsBoxOf l part) box_is h))
    ∙ ap (λ l. map (λ p. first + rank_of l p) (points (b ∷ rest))) (sym box_is)
    ∙ ap (λ l. map (λ p. first + rank_of box p) (points l)) (sym part_is)

-- ---- the first axis of a box and of its part

pub record Cut (a b : Axis) (area rest : List Axis) : Type 0 where
  pub low : a.lo ≤ℤ b.lo
  pub here : a.lo ≤ℤ a.hi
  pub own : b.lo ≤ℤ b.hi
  pub wide : gap a.lo b.lo + size_of b ≤ size_of a
  pub inside : IsBoxOf area rest
  pub ordered : AreOrdered area
  pub part_ordered : AreOrdered rest

cut_at : (a b : Axis) (area rest : List Axis) → IsBoxOf (a ∷ area) (b ∷ rest) → AreOrdered (a ∷ area) → AreOrdered (b ∷ rest) → Cut a b area rest
cut_at a b area rest h o p =
    let w = h.0 in
    let w1 = w.1 in let w2 = w.2 in let o0 = o.0 in let p0 = p.0 in
    record { low = w1; here = o0; own = p0; wide = omega (arith, ints, w1, w2, o0, p0); inside = h.1; ordered = o.1; part_ordered = p.1 }

pub cut_boxes : (box part area rest : List Axis) (a b : Axis) → box ≡ a ∷ area → part ≡ b ∷ rest → IsBoxOf box part → AreOrdered box → AreOrdered part → Cut a b area rest
cut_boxes box part area rest a b box_is part_is h o p =
    cut_at a b area rest (subst (IsBoxOf (a ∷ area)) part_is (subst (λ l. IsBoxOf l part) box_is h)) (subst AreOrdered box_is o) (subst AreOrdered part_is p)

-- the places of a row are few
pub row_few : (a : Axis) (box area : List Axis) (first at : ℕ) → box ≡ a ∷ area → at < size_of a → first + count box ≤ 2 ^ 24 → (first + at * count area) + count area ≤ 2 ^ 24
row_few a box area first at is lt few =
    let more : suc at * count area ≤ size_of a * count area = mul-le-mul_right (count area) (let h : suc at ≤ size_of a = omega (arith, lt) in h) in
    let whole = ap count is in
    let one = suc-mul at (count area) in
    omega (arith, more, whole, one, few)
