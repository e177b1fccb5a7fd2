-- Points of rows and columns.
use Rattle.std.proofs.Common.{◌≡◌, ℕ, zero, suc, ◌+◌, ◌-◌, ◌*◌, ◌≤◌, ◌<◌, ℤ, pos, ◌+ℤ◌, ◌≤ℤ◌, List, [], ◌∷◌, ◌++◌, map, length, get_or, Bool, true, false, cond, refl, ap, sym, ◌∙◌, subst, arith}
use Rattle.std.proofs.lemmas.Int.{ints}
use Rattle.std.proofs.Common.{length-append}
use Rattle.std.proofs.lemmas.List.{get_or-map, length-map}
use Rattle.std.proofs.Math.Nat.{suc-mul}
use Rattle.std.proofs.lemmas.List.Concat.{flat_map-append, flat_map_single}
use Rattle.std.proofs.lemmas.List.Folds.{flat_map-map}
use Rattle.std.specs.List.{range_with_len, filter, flat_map, All}
use Rattle.tile_kernel.specs.declared.windows.Span.{Span}
use Rattle.arr_core.specs.declared.domain.Axis.{Axis}
use Rattle.arr_core.specs.Domains.{gap, size_of, coordinates, points, IsInside, rank_of}
use Rattle.arr_core.proofs.Points.{at_rank, length-points, rank_of-lt-count, gap-add}
use Rattle.tile_columns.specs.Reaching.{cross, along, EndsBy}
use Rattle.tile_kernel.specs.Windows.{in_span}

pub map_map : {X Y Z : Type 0} (f : Y → Z) (g : X → Y) (xs : List X) → map f (map g xs) ≡ map (λ x. f (g x)) xs
map_map f g [] = refl
map_map f g (x ∷ xs) = ap (λ l. f (g x) ∷ l) (map_map f g xs)

pub map_then : {X Y : Type 0} (f : X → Y) (xs ys : List X) → map f (xs ++ ys) ≡ map f xs ++ map f ys
map_then f [] ys = refl
map_then f (x ∷ xs) ys = ap (λ l. f x ∷ l) (map_then f xs ys)

pub flat_same : {X Y : Type 0} (f g : X → List Y) (xs : List X) → ((x : X) → f x ≡ g x) → flat_map f xs ≡ flat_map g xs
flat_same f g [] h = refl
flat_same f g (x ∷ xs) h = ap (λ l. l ++ flat_map f xs) (h x) ∙ ap (λ l. g x ++ l) (flat_same f g xs h)

map_same : {X Y : Type 0} (f g : X → Y) (xs : List X) → ((x : X) → f x ≡ g x) → map f xs ≡ map g xs
map_same f g [] h = refl
map_same f g (x ∷ xs) h = ap (λ y. y ∷ map f xs) (h x) ∙ ap (λ l. g x ∷ l) (map_same f g xs h)

-- ---- points

pub points_cross : (a b : Axis) → points (a ∷ b ∷ []) ≡ cross (coordinates a) (coordinates b)
points_cross a b =
    flat_same (λ y. map (λ p. y ∷ p) (points (b ∷ []))) (λ y. map (λ x. y ∷ x ∷ []) (coordinates b)) (coordinates a)
    (λ y. ap (map (λ p. y ∷ p)) (flat_map_single (λ x. x ∷ []) (coordinates b)) ∙ map_map (λ p. y ∷ p) (λ x. x ∷ []) (coordinates b))

pub flat_cross : {Y : Type 0} (f : List ℤ → List Y) (rows columns : List ℤ) → flat_map f (cross rows columns) ≡ flat_map (λ y. flat_map (λ x. f (y ∷ x ∷ [])) columns) rows
flat_cross f [] columns = refl
flat_cross f (y ∷ rows) columns =
    flat_map-append f (map (λ x. y ∷ x ∷ []) columns) (cross rows columns)
    ∙ ap (λ l. l ++ flat_map f (cross rows columns)) (flat_map-map f (λ x. y ∷ x ∷ []) columns)
    ∙ ap (λ l. flat_map (λ x. f (y ∷ x ∷ [])) columns ++ l) (flat_cross f rows columns)

pub map_cross : {Y : Type 0} (f : List ℤ → Y) (rows columns : List ℤ) → map f (cross rows columns) ≡ flat_map (λ y. map (λ x. f (y ∷ x ∷ [])) columns) rows
map_cross f [] columns = refl
map_cross f (y ∷ rows) columns =
    map_then f (map (λ x. y ∷ x ∷ []) columns) (cross rows columns)
    ∙ ap (λ l. l ++ map f (cross rows columns)) (map_map f (λ x. y ∷ x ∷ []) columns)
    ∙ ap (λ l. map (λ x. f (y ∷ x ∷ [])) columns ++ l) (map_cross f rows columns)

-- the cell of a row and a column
pub cell_at : (a b : Axis) (f : List ℤ → ℤ) (cells : List ℤ) (r c : ℕ) → a.lo ≤ℤ a.hi → b.lo ≤ℤ b.hi → cells ≡ map f (points (a ∷ b ∷ [])) → r < size_of a → c < size_of b
    → get_or cells (r * size_of b + c) (pos 0) ≡ f ((a.lo +ℤ pos r) ∷ (b.lo +ℤ pos c) ∷ [])
cell_at a b f cells r c oa ob e hr hc =
    let y = a.lo +ℤ pos r in
    let x = b.lo +ℤ pos c in
    let p = y ∷ x ∷ [] in
    let inside : IsInside (a ∷ b ∷ []) p = (omega (arith, ints), omega (arith, ints), (omega (arith, ints), omega (arith, ints), tt)) in
    let one : size_of b * 1 ≡ size_of b = omega arith in
    let rank : rank_of (a ∷ b ∷ []) p ≡ r * size_of b + c =
    ap (λ n. n * (size_of b * 1) + (gap b.lo x * 1 + 0)) (gap-add a.lo r) ∙ ap (λ n. r * n + (gap b.lo x * 1 + 0)) one
    ∙ ap (λ n. r * size_of b + (n * 1 + 0)) (gap-add b.lo c) ∙ (let z : c * 1 + 0 ≡ c = omega arith in ap (λ n. r * size_of b + n) z) in
    let below : rank_of (a ∷ b ∷ []) p < length (points (a ∷ b ∷ [])) = subst (λ n. rank_of (a ∷ b ∷ []) p < n) (sym (length-points (a ∷ b ∷ []))) (rank_of-lt-count (a ∷ b ∷ []) p inside) in
    ap (λ n. get_or cells n (pos 0)) (sym rank) ∙ ap (λ l. get_or l (rank_of (a ∷ b ∷ []) p) (pos 0)) e
    ∙ get_or-map f (points (a ∷ b ∷ [])) (rank_of (a ∷ b ∷ []) p) [] (pos 0) below ∙ ap f (at_rank (a ∷ b ∷ []) p [] inside)

-- ---- what lies within reach

flat_filter : {Y : Type 0} (p : ℤ → Bool) (f : ℤ → List Y) (xs : List ℤ) → flat_map f (filter p xs) ≡ flat_map (λ x. cond (p x) (f x) []) xs
flat_filter p f [] = refl
flat_filter {Y} p f (x ∷ xs) = pick (p x) (flat_filter p f xs)
  where
    pick : (b : Bool) → flat_map f (filter p xs) ≡ flat_map (λ x. cond (p x) (f x) []) xs → flat_map f (cond b (x ∷ filter p xs) (filter p xs)) ≡ cond b (f x) [] ++ flat_map (λ x. cond (p x) (f x) []) xs
    pick true e = ap (λ l. f x ++ l) e
    pick false e = e

flat_chosen : {X Y : Type 0} (b : Bool) (f : X → List Y) (xs : List X) → flat_map (λ x. cond b (f x) []) xs ≡ cond b (flat_map f xs) []
flat_chosen true f xs = refl
flat_chosen false f [] = refl
flat_chosen false f (x ∷ xs) = flat_chosen false f xs

map_flat : {X Y Z : Type 0} (f : Y → Z) (g : X → List Y) (xs : List X) → map f (flat_map g xs) ≡ flat_map (λ x. map f (g x)) xs
map_flat f g [] = refl
map_flat f g (x ∷ xs) = map_then f (g x) (flat_map g xs) ∙ ap (λ l. map f (g x) ++ l) (map_flat f g xs)

-- what is chosen of offsets is what there is at the numbers within reach
pub chosen_reached : {Y : Type 0} (val : ℤ → Y) (cell : ℤ → ℤ → ℤ) (p q : ℤ) (first second : ℤ → Bool) (us vs : List ℤ)
    → flat_map (λ u. flat_map (λ v. cond (first (p +ℤ u)) (cond (second (q +ℤ v)) (val (cell (p +ℤ u) (q +ℤ v)) ∷ []) []) []) vs) us
    ≡ map val (flat_map (λ y. map (cell y) (filter second (map (λ v. q +ℤ v) vs))) (filter first (map (λ u. p +ℤ u) us)))
chosen_reached {Y} val cell p q first second us vs =
    let inner : ℤ → List Y = λ y. map val (map (cell y) (filter second (map (λ v. q +ℤ v) vs))) in
    flat_same (λ u. flat_map (λ v. cond (first (p +ℤ u)) (cond (second (q +ℤ v)) (val (cell (p +ℤ u) (q +ℤ v)) ∷ []) []) []) vs) (λ u. cond (first (p +ℤ u)) (inner (p +ℤ u)) []) us
    (λ u.
    flat_chosen (first (p +ℤ u)) (λ v. cond (second (q +ℤ v)) (val (cell (p +ℤ u) (q +ℤ v)) ∷ []) []) vs
    ∙ ap (λ l. cond (first (p +ℤ u)) l []) (
    sym (flat_map-map (λ x. cond (second x) (val (cell (p +ℤ u) x) ∷ []) []) (λ v. q +ℤ v) vs)
    ∙ sym (flat_filter second (λ x. val (cell (p +ℤ u) x) ∷ []) (map (λ v. q +ℤ v) vs))
    ∙ flat_map_single (λ x. val (cell (p +ℤ u) x)) (filter second (map (λ v. q +ℤ v) vs))
    ∙ sym (map_map val (cell (p +ℤ u)) (filter second (map (λ v. q +ℤ v) vs)))))
    ∙ sym (flat_map-map (λ y. cond (first y) (inner y) []) (λ u. p +ℤ u) us)
    ∙ sym (flat_filter first inner (map (λ u. p +ℤ u) us))
    ∙ sym (map_flat val (λ y. map (cell y) (filter second (map (λ v. q +ℤ v) vs))) (filter first (map (λ u. p +ℤ u) us)))

-- ---- windows

pub flat_over : {Y : Type 0} (f g : ℕ → List Y) (a n : ℕ) → ((k : ℕ) → k < a + n → f k ≡ g k) → flat_map f (range_with_len a n) ≡ flat_map g (range_with_len a n)
flat_over f g a zero h = refl
flat_over f g a (suc n) h = ap (λ l. l ++ flat_map f (range_with_len (a + 1) n)) (h a (omega arith)) ∙ ap (λ l. g a ++ l) (flat_over f g (a + 1) n (λ k lt. h k (omega arith)))

map_over : {Y : Type 0} (f g : ℕ → Y) (a n : ℕ) → ((k : ℕ) → k < a + n → f k ≡ g k) → map f (range_with_len a n) ≡ map g (range_with_len a n)
map_over f g a zero h = refl
map_over f g a (suc n) h = ap (λ y. y ∷ map f (range_with_len (a + 1) n)) (h a (omega arith)) ∙ ap (λ l. g a ∷ l) (map_over f g (a + 1) n (λ k lt. h k (omega arith)))

flat_all : {X Y : Type 0} (P : X → Type 0) (f g : X → List Y) (xs : List X) → All P xs → ((x : X) → P x → f x ≡ g x) → flat_map f xs ≡ flat_map g xs
flat_all P f g [] a h = refl
flat_all P f g (x ∷ xs) a h = ap (λ l. l ++ flat_map f xs) (h x (a 0 x (omega arith))) ∙ ap (λ l. g x ++ l) (flat_all P f g xs (λ k d lt. a (suc k) d (omega arith)) h)

pub map_all : {X Y : Type 0} (P : X → Type 0) (f g : X → Y) (xs : List X) → All P xs → ((x : X) → P x → f x ≡ g x) → map f xs ≡ map g xs
map_all P f g [] a h = refl
map_all P f g (x ∷ xs) a h = ap (λ y. y ∷ map f xs) (h x (a 0 x (omega arith))) ∙ ap (λ l. g x ∷ l) (map_all P f g xs (λ k d lt. a (suc k) d (omega arith)) h)

-- the cells in a span of rows and a span of columns, and what becomes of these windows
abbrev window : List ℤ → ℕ → Span → Span → List ℤ
window cells width down across = flat_map (λ r. map (λ c. get_or cells (r * width + c) (pos 0)) (in_span across)) (in_span down)

abbrev pub windows : {Y : Type 0} → (List ℤ → Y) → List ℤ → ℕ → List Span → List Span → List Y
windows come cells width down across = flat_map (λ d. map (λ a. come (window cells width d a)) across) down

-- the cells of a window
window_cells : (a b : Axis) (f : List ℤ → ℤ) (cells : List ℤ) (d s : Span) → a.lo ≤ℤ a.hi → b.lo ≤ℤ b.hi → cells ≡ map f (points (a ∷ b ∷ [])) → (d.from + (d.to - d.from)) ≤ size_of a → (s.from + (s.to - s.from)) ≤ size_of b
    → window cells (size_of b) d s ≡ flat_map (λ y. map (λ x. f (y ∷ x ∷ [])) (along b.lo s)) (along a.lo d)
window_cells a b f cells d s oa ob e hd hs =
    flat_over (λ r. map (λ c. get_or cells (r * size_of b + c) (pos 0)) (in_span s)) (λ r. map (λ c. f ((a.lo +ℤ pos r) ∷ (b.lo +ℤ pos c) ∷ [])) (in_span s)) d.from (d.to - d.from)
    (λ r hr. map_over (λ c. get_or cells (r * size_of b + c) (pos 0)) (λ c. f ((a.lo +ℤ pos r) ∷ (b.lo +ℤ pos c) ∷ [])) s.from (s.to - s.from)
    (λ c hc. cell_at a b f cells r c oa ob e (omega arith) (omega arith)))
    ∙ flat_same (λ r. map (λ c. f ((a.lo +ℤ pos r) ∷ (b.lo +ℤ pos c) ∷ [])) (in_span s)) (λ r. map (λ x. f ((a.lo +ℤ pos r) ∷ x ∷ [])) (along b.lo s)) (in_span d)
    (λ r. sym (map_map (λ x. f ((a.lo +ℤ pos r) ∷ x ∷ [])) (λ c. b.lo +ℤ pos c) (in_span s)))
    ∙ sym (flat_map-map (λ y. map (λ x. f (y ∷ x ∷ [])) (along b.lo s)) (λ r. a.lo +ℤ pos r) (in_span d))

-- what becomes of the cells of each window is what becomes of the cells at the numbers that each row and each column
-- reaches
pub windows_cross : {Y : Type 0} (come : List ℤ → Y) (a b : Axis) (f : List ℤ → ℤ) (cells : List ℤ) (down across : List Span) (up side : ℤ → List ℤ) (rows columns : List ℤ)
    → a.lo ≤ℤ a.hi → b.lo ≤ℤ b.hi → cells ≡ map f (points (a ∷ b ∷ [])) → All (EndsBy (size_of a)) down → All (EndsBy (size_of b)) across
    → map (along a.lo) down ≡ map up rows → map (along b.lo) across ≡ map side columns
    → windows come cells (size_of b) down across ≡ flat_map (λ y. map (λ x. come (flat_map (λ r. map (λ c. f (r ∷ c ∷ [])) (side x)) (up y))) columns) rows
windows_cross {Y} come a b f cells down across up side rows columns oa ob e hd hs ed es =
    let key : List ℤ → List ℤ → Y = λ ys xs. come (flat_map (λ r. map (λ c. f (r ∷ c ∷ [])) xs) ys) in
    flat_all (EndsBy (size_of a)) (λ d. map (λ s. come (window cells (size_of b) d s)) across) (λ d. map (λ xs. key (along a.lo d) xs) (map side columns)) down hd
    (λ d ld.
    map_all (EndsBy (size_of b)) (λ s. come (window cells (size_of b) d s)) (λ s. key (along a.lo d) (along b.lo s)) across hs (λ s ls. ap come (window_cells a b f cells d s oa ob e (omega (arith, ld.0, ld.1)) (omega (arith, ls.0, ls.1))))
    ∙ sym (map_map (key (along a.lo d)) (along b.lo) across)
    ∙ ap (map (key (along a.lo d))) es)
    ∙ sym (flat_map-map (λ ys. map (key ys) (map side columns)) (along a.lo) down)
    ∙ ap (flat_map (λ ys. map (key ys) (map side columns))) ed
    ∙ flat_map-map (λ ys. map (key ys) (map side columns)) up rows
    ∙ flat_same (λ y. map (key (up y)) (map side columns)) (λ y. map (λ x. key (up y) (side x)) columns) rows (λ y. map_map (key (up y)) side columns)

-- ---- how many

pub length_cross : {X Z Y : Type 0} (f : X → Z → Y) (rows : List X) (columns : List Z) → length (flat_map (λ y. map (f y) columns) rows) ≡ length rows * length columns
length_cross f [] columns = omega arith
length_cross f (y ∷ rows) columns =
    let a = length-append (map (f y) columns) (flat_map (λ y. map (f y) columns) rows) in
    let b = length-map columns (f y) in
    let h = length_cross f rows columns in
    let m = suc-mul (length rows) (length columns) in
    omega (arith, a, b, h, m)

-- the rows of a grid, then some more
pub cross_then : (rows more columns : List ℤ) → cross (rows ++ more) columns ≡ cross rows columns ++ cross more columns
cross_then rows more columns = flat_map-append (λ y. map (λ x. y ∷ x ∷ []) columns) rows more

pub windows_many : {Y : Type 0} (come : List ℤ → Y) (cells : List ℤ) (width : ℕ) (down across : List Span) → length (windows come cells width down across) ≡ length down * length across
windows_many come cells width down across = length_cross (λ d a. come (window cells width d a)) down across
