-- What columns tell of the points of a tile.
use Rattle.std.proofs.Common.{◌≡◌, ℕ, zero, suc, ◌+◌, ◌*◌, ◌<◌, ◌≤◌, ◌^◌, Bool, List, [], ◌∷◌, ◌++◌, length, get_or, take, map, ℤ, pos, refl, sym, ap, ◌∙◌, subst, arith, Some, append_assoc, length-append}
use Rattle.std.specs.Prelude.{slice_get, All}
use Rattle.std.specs.List.{flat_map, enumerate_from, range_with_len}
use Rattle.std.proofs.Math.Nat.{suc-mul}
use Rattle.std.proofs.lemmas.Option.{slice_get-get_or}
use Rattle.std.proofs.lemmas.List.{length-map, get_or-map, map_more, take_more, length-take-le, get_or-append-add, get_or_append_left}
use Rattle.std.proofs.lemmas.List.Elements.{All-append, All-cons, All-nil}
use Rattle.std.proofs.lemmas.List.FromFn.{get_or-range_with_len, length-range_with_len, length-enumerate_from, get_or-enumerate_from}
use Rattle.std.proofs.lemmas.List.Folds.{flat_map-map}
use Rattle.arr_core.specs.declared.domain.Axis.{Axis}
use Rattle.arr_core.specs.declared.cell.Cell.{Cell}
use Rattle.arr_core.specs.Domains.{points, count, rank_of, IsInside, IsBoxOf, AreOrdered}
use Rattle.arr_core.proofs.Points.{length-points, rank_of-lt-count, at_rank, place_below}
use Rattle.wcps_mean.specs.declared.cell.Outcome.{Outcome}
use Rattle.wcps_mean.specs.declared.cell.Outcome.TheVariants.{Value}
use Rattle.wcps_mean.specs.Answer.{cell_of}
use Rattle.plan_ir.specs.Plans.{FieldBody, ItemTree, field_view}
use Rattle.plan_ir.specs.declared.plan.Field.{Field}
use Rattle.plan_ir.specs.Run.{run}
use Rattle.tile_kernel.specs.Columns.{outcome_at}
use Rattle.tile_kernel.specs.Told.{Told, IsValue}
use Rattle.tile_columns.specs.Fields.{behind, columns_behind}
use Rattle.tile_columns.proofs.Ranges.{map_map, same_over, by_places}
use Rattle.tile_exec.specs.Items.{row, value_of, row_cells, all_cells, told_to_item, places_of}
use Rattle.tile_columns.proofs.Boxes.{box-inside, points_inside}
use Rattle.tile_columns.proofs.ByRows.{map_same, map_flat}
use Rattle.tile_exec.specs.Rows.{row_at, booleans_of, cells_from, first_place, cells_told, rows_told, all_rows_told}

-- ---- one more field

cells_more : (n : ℕ) (bs : List Bool) (os : List Outcome) (b : Bool) (o : Outcome) → length os ≡ length bs → cells_from n (bs ++ b ∷ []) (os ++ o ∷ []) ≡ cells_from n bs os ++ (n + length bs, cell_of b (value_of o)) ∷ []
cells_more n [] [] b o h = let e : n ≡ n + 0 = omega arith in ap (λ k. (k, cell_of b (value_of o)) ∷ []) e
cells_more n [] (p ∷ os) b o h = absurd (omega arith)
cells_more n (a ∷ bs) [] b o h = absurd (omega arith)
cells_more n (a ∷ bs) (p ∷ os) b o h =
    let e : (n + 1) + length bs ≡ n + suc (length bs) = omega arith in
    ap (λ l. (n, cell_of a (value_of p)) ∷ l) (cells_more (n + 1) bs os b o (omega arith) ∙ ap (λ k. cells_from (n + 1) bs os ++ (k, cell_of b (value_of o)) ∷ []) e)

enumerate_more : {X : Type 0} (n : ℕ) (os : List X) (o : X) → enumerate_from n (os ++ o ∷ []) ≡ enumerate_from n os ++ (n + length os, o) ∷ []
enumerate_more n [] o = let e : n ≡ n + 0 = omega arith in ap (λ k. (k, o) ∷ []) e
enumerate_more n (p ∷ os) o =
    let e : (n + 1) + length os ≡ n + suc (length os) = omega arith in
    ap (λ l. (n, p) ∷ l) (enumerate_more (n + 1) os o ∙ ap (λ k. enumerate_from (n + 1) os ++ (k, o) ∷ []) e)

pub cells_next : (place : ℕ) (booleans : List Bool) (columns : List (List Outcome)) (k j : ℕ) (d : Bool) (e : List Outcome) (own : ℕ) (cell : Cell)
    → length columns ≡ length booleans → j < length booleans → own ≡ place + j → cell ≡ cell_of (get_or booleans j d) (value_of (outcome_at (get_or columns j e) k))
    → cells_from place (take j booleans) (row_at (take j columns) k) ++ (own, cell) ∷ [] ≡ cells_from place (take (j + 1) booleans) (row_at (take (j + 1) columns) k)
cells_next place booleans columns k j d e own cell m lt o c =
    let f = get_or booleans j d in
    let x = outcome_at (get_or columns j e) k in
    let fs = take j booleans in
    let os = row_at (take j columns) k in
    let a : length fs ≡ j = length-take-le j booleans (omega arith) in
    let b : length os ≡ j = length-map (take j columns) (λ (c : List Outcome). outcome_at c k) ∙ length-take-le j columns (omega arith) in
    let at : place + length fs ≡ own = omega arith in
    ap (λ y. cells_from place fs os ++ (own, y) ∷ []) c
    ∙ ap (λ p. cells_from place fs os ++ (p, cell_of f (value_of x)) ∷ []) (sym at)
    ∙ sym (cells_more place fs os f x (b ∙ sym a))
    ∙ ap (λ l. cells_from place l (os ++ x ∷ [])) (sym (take_more booleans j d lt))
    ∙ ap (cells_from place (take (j + 1) booleans)) (sym (map_more (λ (c : List Outcome). outcome_at c k) columns j e (omega arith)))

pub row_next : (place : ℕ) (columns : List (List Outcome)) (k j : ℕ) (e : List Outcome) (told : List Told) (own : ℕ) (o : Outcome) → j < length columns → own ≡ place + j → outcome_at (get_or columns j e) k ≡ o
    → (told ++ enumerate_from place (row_at (take j columns) k)) ++ (own, o) ∷ [] ≡ told ++ enumerate_from place (row_at (take (j + 1) columns) k)
row_next place columns k j e told own o lt is at =
    let os = row_at (take j columns) k in
    let b : length os ≡ j = length-map (take j columns) (λ (c : List Outcome). outcome_at c k) ∙ length-take-le j columns (omega arith) in
    let p : own ≡ place + length os = omega arith in
    append_assoc told (enumerate_from place os) ((own, o) ∷ [])
    ∙ ap (λ l. told ++ l)
    (ap (λ q. enumerate_from place os ++ (q, o) ∷ []) p ∙ sym (enumerate_more place os o)
    ∙ ap (λ x. enumerate_from place (os ++ x ∷ [])) (sym at)
    ∙ ap (enumerate_from place) (sym (map_more (λ (c : List Outcome). outcome_at c k) columns j e lt)))

-- ---- all points

flat_over : {X Y : Type 0} (f : ℕ → List Y) (g : X → List Y) (xs : List X) (d : X) (n : ℕ) → n ≡ length xs → ((k : ℕ) → k < n → f k ≡ g (get_or xs k d)) → flat_map f (range_with_len 0 n) ≡ flat_map g xs
flat_over f g xs d n e h =
    sym (flat_map-map (λ l. l) f (range_with_len 0 n))
    ∙ ap (flat_map (λ l. l)) (same_over f (λ k. g (get_or xs k d)) n h ∙ ap (λ m. map (λ k. g (get_or xs k d)) (range_with_len 0 m)) e ∙ sym (by_places g xs d))
    ∙ flat_map-map (λ l. l) g xs

-- the outcomes of the fields at a place of their columns
row_there : (s : ℕ → ℕ → List ℤ → ℤ) (regs : List Outcome) (i : ItemTree) (qs : List (List ℤ)) (k : ℕ) → k < length qs → row_at (columns_behind s regs i.binds i.fields qs) k ≡ row s regs i (get_or qs k [])
row_there s regs i qs k lt =
    map_map (λ (c : List Outcome). outcome_at c k) (λ (f : FieldBody). map (run s regs (behind i.binds f.body)) qs) i.fields
    ∙ map_same (λ (f : FieldBody). outcome_at (map (run s regs (behind i.binds f.body)) qs) k) (λ (f : FieldBody). run s regs (behind i.binds f.body) (get_or qs k [])) i.fields
    (λ f. get_or-map (run s regs (behind i.binds f.body)) qs k [] (Value (pos 0)) lt)

cells_of_row : (g : FieldBody → Outcome) (n : ℕ) (fields : List FieldBody) → cells_from n (booleans_of fields) (map g fields) ≡ enumerate_from n (map (λ (f : FieldBody). cell_of f.boolean (value_of (g f))) fields)
cells_of_row g n [] = refl
cells_of_row g n (f ∷ fields) = ap (λ l. (n, cell_of f.boolean (value_of (g f))) ∷ l) (cells_of_row g (n + 1) fields)

-- the cells of an item at these points, each with its place
abbrev pub cells_at_points : (ℕ → ℕ → List ℤ → ℤ) → List Outcome → ItemTree → List (List ℤ) → List (ℕ × Cell)
cells_at_points s regs i qs = flat_map (λ q. enumerate_from (rank_of i.domain q * length i.fields) (row_cells s regs i q)) qs

pub cells_all : (s : ℕ → ℕ → List ℤ → ℤ) (regs : List Outcome) (i : ItemTree) (qs : List (List ℤ)) → cells_told (map (rank_of i.domain) qs) (booleans_of i.fields) (columns_behind s regs i.binds i.fields qs) (length qs) ≡ cells_at_points s regs i qs
cells_all s regs i qs =
    let columns = columns_behind s regs i.binds i.fields qs in
    let ranks = map (rank_of i.domain) qs in
    let booleans = booleans_of i.fields in
    let width : length booleans ≡ length i.fields = length-map i.fields (λ (f : FieldBody). f.boolean) in
    flat_over (λ k. cells_from (first_place ranks (length booleans) k) booleans (row_at columns k)) (λ q. enumerate_from (rank_of i.domain q * length i.fields) (row_cells s regs i q)) qs [] (length qs) refl
    (λ k lt.
    ap (λ n. cells_from (get_or ranks k 0 * n) booleans (row_at columns k)) width
    ∙ ap (λ r. cells_from (r * length i.fields) booleans (row_at columns k)) (get_or-map (rank_of i.domain) qs k [] 0 lt)
    ∙ ap (cells_from (rank_of i.domain (get_or qs k []) * length i.fields) booleans) (row_there s regs i qs k lt)
    ∙ cells_of_row (λ (f : FieldBody). run s regs (behind i.binds f.body) (get_or qs k [])) (rank_of i.domain (get_or qs k []) * length i.fields) i.fields)

pub rows_all : (s : ℕ → ℕ → List ℤ → ℤ) (regs : List Outcome) (i : ItemTree) (qs : List (List ℤ)) → rows_told (map (rank_of i.domain) qs) (length i.fields) (columns_behind s regs i.binds i.fields qs) (length qs) ≡ flat_map (told_to_item s regs i) qs
rows_all s regs i qs =
    let columns = columns_behind s regs i.binds i.fields qs in
    let ranks = map (rank_of i.domain) qs in
    flat_over (λ k. enumerate_from (first_place ranks (length i.fields) k) (row_at columns k)) (told_to_item s regs i) qs [] (length qs) refl
    (λ k lt.
    ap (λ r. enumerate_from (r * length i.fields) (row_at columns k)) (get_or-map (rank_of i.domain) qs k [] 0 lt)
    ∙ ap (enumerate_from (rank_of i.domain (get_or qs k []) * length i.fields)) (row_there s regs i qs k lt))

-- ---- the places

cells_places : (n : ℕ) (bs : List Bool) (os : List Outcome) → length os ≡ length bs → map (λ (w : ℕ × Cell). w.0) (cells_from n bs os) ≡ range_with_len n (length bs)
cells_places n [] [] h = refl
cells_places n [] (o ∷ os) h = absurd (omega arith)
cells_places n (b ∷ bs) [] h = absurd (omega arith)
cells_places n (b ∷ bs) (o ∷ os) h = ap (λ l. n ∷ l) (cells_places (n + 1) bs os (omega arith))

pub cell_place : (n : ℕ) (bs : List Bool) (os : List Outcome) (j : ℕ) (d : ℕ × Cell) → length os ≡ length bs → j < length bs → (get_or (cells_from n bs os) j d).0 ≡ n + j
cell_place n [] os j d h lt = absurd (omega arith)
cell_place n (b ∷ bs) [] j d h lt = absurd (omega arith)
cell_place n (b ∷ bs) (o ∷ os) zero d h lt = omega arith
cell_place n (b ∷ bs) (o ∷ os) (suc j) d h lt =
    let later = cell_place (n + 1) bs os j d (omega arith) (omega arith) in omega (arith, later)

pub cell_count_at : (n : ℕ) (bs : List Bool) (os : List Outcome) → length os ≡ length bs → length (cells_from n bs os) ≡ length bs
cell_count_at n [] os h = refl
cell_count_at n (b ∷ bs) [] h = absurd (omega arith)
cell_count_at n (b ∷ bs) (o ∷ os) h = ap suc (cell_count_at (n + 1) bs os (omega arith))

pub places_all : (i : ItemTree) (qs : List (List ℤ)) (columns : List (List Outcome)) → length columns ≡ length i.fields → map (λ (w : ℕ × Cell). w.0) (cells_told (map (rank_of i.domain) qs) (booleans_of i.fields) columns (length qs)) ≡ flat_map (places_of i) qs
places_all i qs columns m =
    let ranks = map (rank_of i.domain) qs in
    let booleans = booleans_of i.fields in
    let width : length booleans ≡ length i.fields = length-map i.fields (λ (f : FieldBody). f.boolean) in
    map_flat (λ (w : ℕ × Cell). w.0) (λ k. cells_from (first_place ranks (length booleans) k) booleans (row_at columns k)) (range_with_len 0 (length qs))
    ∙ flat_over (λ k. map (λ (w : ℕ × Cell). w.0) (cells_from (first_place ranks (length booleans) k) booleans (row_at columns k))) (places_of i) qs [] (length qs) refl
    (λ k lt.
    cells_places (first_place ranks (length booleans) k) booleans (row_at columns k) (length-map columns (λ (c : List Outcome). outcome_at c k) ∙ m ∙ sym width)
    ∙ ap (λ n. range_with_len (get_or ranks k 0 * n) n) width
    ∙ ap (λ r. range_with_len (r * length i.fields) (length i.fields)) (get_or-map (rank_of i.domain) qs k [] 0 lt))

-- what holds of each in a list of pieces holds of each in a piece
all_left : {Y : Type 0} (P : Y → Type 0) (xs ys : List Y) → All P (xs ++ ys) → All P xs
all_left P xs ys h k d lt = subst P (get_or_append_left xs ys d k lt) (h k d (omega (arith, length-append xs ys)))

all_right : {Y : Type 0} (P : Y → Type 0) (xs ys : List Y) → All P (xs ++ ys) → All P ys
all_right P xs ys h k d lt = subst P (get_or-append-add xs ys k d) (h (length xs + k) d (omega (arith, length-append xs ys)))

all_in_piece : {X Y : Type 0} (P : Y → Type 0) (f : X → List Y) (xs : List X) (k : ℕ) (d : X) → All P (flat_map f xs) → k < length xs → All P (f (get_or xs k d))
all_in_piece P f [] k d h lt = absurd (omega arith)
all_in_piece P f (x ∷ xs) zero d h lt = all_left P (f x) (flat_map f xs) h
all_in_piece P f (x ∷ xs) (suc k) d h lt = all_in_piece P f xs k d (all_right P (f x) (flat_map f xs) h) (omega arith)

pub all_at_point : {Y : Type 0} (P : Y → Type 0) (f : ℕ → List Y) (n k : ℕ) → All P (flat_map f (range_with_len 0 n)) → k < n → All P (f k)
all_at_point P f n k h lt =
    let none : 0 + k ≡ k = omega arith in
    let at : get_or (range_with_len 0 n) k 0 ≡ k = get_or-range_with_len 0 n k 0 lt ∙ none in
    subst (λ m. All P (f m)) at (all_in_piece P f (range_with_len 0 n) k 0 h (omega (arith, length-range_with_len 0 n)))

all_flat : {X Y : Type 0} (P : Y → Type 0) (f : X → List Y) (xs : List X) → ((k : ℕ) (d : X) → k < length xs → All P (f (get_or xs k d))) → All P (flat_map f xs)
all_flat P f [] h = All-nil P
all_flat P f (x ∷ xs) h = All-append P (f x) (flat_map f xs) (h 0 x (omega arith)) (all_flat P f xs (λ k d lt. h (suc k) d (omega arith)))

all_mapped : {X Y : Type 0} (P : Y → Type 0) (f : X → Y) (xs : List X) → All P (map f xs) → All (λ x. P (f x)) xs
all_mapped P f xs h k d lt =
    let m = length-map xs f in
    subst P (get_or-map f xs k d (f d) lt) (h k (f d) (omega arith))

-- each place of a cell is below the count of all cells
pub places_below : (i : ItemTree) (qs : List (List ℤ)) (written : List (ℕ × Cell)) → All (IsInside i.domain) qs → map (λ (w : ℕ × Cell). w.0) written ≡ flat_map (places_of i) qs → All (λ (w : ℕ × Cell). w.0 < count i.domain * length i.fields) written
places_below i qs written inside is =
    let N = count i.domain * length i.fields in
    all_mapped (λ p. p < N) (λ (w : ℕ × Cell). w.0) written (subst (All (λ p. p < N)) (sym is)
    (all_flat (λ p. p < N) (places_of i) qs (λ k d lt j e l.
    let q = get_or qs k d in
    let m = length-range_with_len (rank_of i.domain q * length i.fields) (length i.fields) in
    let below : j < length i.fields = omega arith in
    let at = get_or-range_with_len (rank_of i.domain q * length i.fields) (length i.fields) j e below in
    subst (λ p. p < N) (sym at) (place_below (rank_of i.domain q) (count i.domain) (length i.fields) j (rank_of-lt-count i.domain q (inside k d lt)) below))))

-- ---- the cells

flat_length : {X A : Type 0} (f : X → List A) (n : ℕ) (xs : List X) → ((x : X) → length (f x) ≡ n) → length (flat_map f xs) ≡ length xs * n
flat_length f n [] same = let z : 0 * n ≡ 0 = grind arith in sym z
flat_length f n (x ∷ xs) same =
    let a = length-append (f x) (flat_map f xs) in
    let b = flat_length f n xs same in
    let c = suc-mul (length xs) n in
    let d = same x in
    omega (arith, a, b, c, d)

at_piece : {X A : Type 0} (f : X → List A) (n : ℕ) (xs : List X) → ((x : X) → length (f x) ≡ n) → (i j : ℕ) (e : X) (d : A) → i < length xs → j < n → get_or (flat_map f xs) (i * n + j) d ≡ get_or (f (get_or xs i e)) j d
at_piece f n [] same i j e d hi hj = absurd (omega arith)
at_piece f n (x ∷ xs) same zero j e d hi hj =
    let l = same x in
    let zn : 0 * n ≡ 0 = grind arith in
    let z : 0 * n + j ≡ j = omega (arith, zn) in
    ap (λ k. get_or (flat_map f (x ∷ xs)) k d) z ∙ get_or_append_left (f x) (flat_map f xs) d j (omega arith)
at_piece f n (x ∷ xs) same (suc i) j e d hi hj =
    let a = suc-mul i n in
    let l = same x in
    let at : suc i * n + j ≡ length (f x) + (i * n + j) = omega arith in
    ap (λ k. get_or (f x ++ flat_map f xs) k d) at ∙ get_or-append-add (f x) (flat_map f xs) (i * n + j) d ∙ at_piece f n xs same i j e d (omega arith) hj

pub cells_right : (s : ℕ → ℕ → List ℤ → ℤ) (regs : List Outcome) (i : ItemTree) (qs : List (List ℤ)) → All (IsInside i.domain) qs → All (λ (w : ℕ × Cell). slice_get (all_cells s regs i) w.0 ≡ Some w.1) (cells_at_points s regs i qs)
cells_right s regs i qs inside =
    let n = length i.fields in
    let same : (q : List ℤ) → length (row_cells s regs i q) ≡ n = λ q. length-map i.fields (λ (f : FieldBody). cell_of f.boolean (value_of (run s regs (behind i.binds f.body) q))) in
    all_flat (λ (w : ℕ × Cell). slice_get (all_cells s regs i) w.0 ≡ Some w.1) (λ q. enumerate_from (rank_of i.domain q * n) (row_cells s regs i q)) qs (λ k d lt j e l.
    let q = get_or qs k d in
    let r = rank_of i.domain q in
    let row = row_cells s regs i q in
    let m : length (enumerate_from (r * n) row) ≡ n = length-enumerate_from (r * n) row ∙ same q in
    let jn : j < n = omega arith in
    let rc : r < count i.domain = rank_of-lt-count i.domain q (inside k d lt) in
    let lp = length-points i.domain in
    let jr : j < length row = let x = same q in omega arith in
    let all : length (all_cells s regs i) ≡ length (points i.domain) * n = flat_length (row_cells s regs i) n (points i.domain) same in
    let low : r * n + j < count i.domain * n = place_below r (count i.domain) n j rc jn in
    let within : r * n + j < length (all_cells s regs i) = subst (λ c. r * n + j < c) (ap (λ c. c * n) (sym lp) ∙ sym all) low in
    let there : slice_get (all_cells s regs i) (r * n + j) ≡ Some (get_or row j e.1) =
    slice_get-get_or (all_cells s regs i) (r * n + j) e.1 within
    ∙ ap Some (at_piece (row_cells s regs i) n (points i.domain) same r j [] e.1 (omega arith) jn ∙ ap (λ p. get_or (row_cells s regs i p) j e.1) (at_rank i.domain q [] (inside k d lt))) in
    subst (λ (w : ℕ × Cell). slice_get (all_cells s regs i) w.0 ≡ Some w.1) (sym (get_or-enumerate_from (r * n) row j e jr)) there)

-- ---- a tile

-- the points of a part of a box are inside the box
pub part_inside : (area box : List Axis) → IsBoxOf area box → AreOrdered box → All (IsInside area) (points box)
part_inside area box b o k d lt = box-inside area box (get_or (points box) k d) b (points_inside box o k d lt)

pub ranks_small : (area : List Axis) (qs : List (List ℤ)) → count area ≤ 2 ^ 24 → All (IsInside area) qs → All (λ r. r < 2 ^ 24) (map (rank_of area) qs)
ranks_small area qs few inside k d lt =
    let m = length-map qs (rank_of area) in
    let l : k < length qs = omega (arith, m, lt) in
    let at = get_or-map (rank_of area) qs k [] d l in
    let below = rank_of-lt-count area (get_or qs k []) (inside k [] l) in
    omega (arith, at, below, few)

-- the fields of an item that are Boolean, by its fields or by their views
pub which_are_boolean : (fields : List Field) (own : List Bool) → own ≡ map (λ (f : Field). f.boolean) fields → own ≡ booleans_of (map field_view fields)
which_are_boolean fields own is = is ∙ sym (map_map (λ (f : FieldBody). f.boolean) field_view fields)

told_places : (i : ItemTree) (qs : List (List ℤ)) (ranks : List ℕ) (columns : List (List Outcome)) (written : List (ℕ × Cell)) → ranks ≡ map (rank_of i.domain) qs → written ≡ cells_told ranks (booleans_of i.fields) columns (length ranks) → written ≡ cells_told (map (rank_of i.domain) qs) (booleans_of i.fields) columns (length qs)
told_places i qs ranks columns written r w = w ∙ ap (λ l. cells_told l (booleans_of i.fields) columns (length l)) r ∙ ap (cells_told (map (rank_of i.domain) qs) (booleans_of i.fields) columns) (length-map qs (rank_of i.domain))

pub written_places : (i : ItemTree) (qs : List (List ℤ)) (ranks : List ℕ) (columns : List (List Outcome)) (written : List (ℕ × Cell)) → ranks ≡ map (rank_of i.domain) qs → length columns ≡ length i.fields → written ≡ cells_told ranks (booleans_of i.fields) columns (length ranks)
    → map (λ (w : ℕ × Cell). w.0) written ≡ flat_map (places_of i) qs
written_places i qs ranks columns written r m w = ap (map (λ (w : ℕ × Cell). w.0)) (told_places i qs ranks columns written r w) ∙ places_all i qs columns m

pub written_cells : (s : ℕ → ℕ → List ℤ → ℤ) (regs : List Outcome) (i : ItemTree) (qs : List (List ℤ)) (ranks : List ℕ) (columns : List (List Outcome)) (written : List (ℕ × Cell)) → ranks ≡ map (rank_of i.domain) qs → columns ≡ columns_behind s regs i.binds i.fields qs → written ≡ cells_told ranks (booleans_of i.fields) columns (length ranks)
    → All (IsInside i.domain) qs → All (λ (w : ℕ × Cell). slice_get (all_cells s regs i) w.0 ≡ Some w.1) written
written_cells s regs i qs ranks columns written r e w inside =
    subst (All (λ (w : ℕ × Cell). slice_get (all_cells s regs i) w.0 ≡ Some w.1))
    (sym (told_places i qs ranks columns written r w ∙ ap (λ l. cells_told (map (rank_of i.domain) qs) (booleans_of i.fields) l (length qs)) e ∙ cells_all s regs i qs))
    (cells_right s regs i qs inside)

pub told_rows : (s : ℕ → ℕ → List ℤ → ℤ) (regs : List Outcome) (i : ItemTree) (qs : List (List ℤ)) (ranks : List ℕ) (columns : List (List Outcome)) (width : ℕ) → ranks ≡ map (rank_of i.domain) qs → columns ≡ columns_behind s regs i.binds i.fields qs → width ≡ length i.fields
    → rows_told ranks width columns (length ranks) ≡ flat_map (told_to_item s regs i) qs
told_rows s regs i qs ranks columns width r e m =
    ap (λ l. rows_told l width columns (length l)) r
    ∙ ap (rows_told (map (rank_of i.domain) qs) width columns) (length-map qs (rank_of i.domain))
    ∙ ap (λ n. rows_told (map (rank_of i.domain) qs) n columns (length qs)) m
    ∙ ap (λ l. rows_told (map (rank_of i.domain) qs) (length i.fields) l (length qs)) e
    ∙ rows_all s regs i qs

-- ---- columns of values alone

value_there : (c : List Outcome) (k : ℕ) → All IsValue c → IsValue (outcome_at c k)
value_there [] k h = tt
value_there (o ∷ c) zero h = h 0 o (omega arith)
value_there (o ∷ c) (suc k) h = value_there c k (λ j d lt. h (suc j) d (omega arith))

row_of_values : (n : ℕ) (columns : List (List Outcome)) (k : ℕ) → All (All IsValue) columns → All (λ (t : Told). IsValue t.1) (enumerate_from n (row_at columns k))
row_of_values n [] k h = All-nil (λ (t : Told). IsValue t.1)
row_of_values n (c ∷ columns) k h =
    All-cons (λ (t : Told). IsValue t.1) (n, outcome_at c k) (enumerate_from (n + 1) (row_at columns k)) (value_there c k (h 0 [] (omega arith)))
    (row_of_values (n + 1) columns k (λ j d lt. h (suc j) d (omega arith)))

-- columns of values alone tell no fault
pub rows_of_values : (ranks : List ℕ) (columns : List (List Outcome)) → All (All IsValue) columns → All (λ (t : Told). IsValue t.1) (all_rows_told ranks (length columns) columns)
rows_of_values ranks columns h =
    all_flat (λ (t : Told). IsValue t.1) (λ k. enumerate_from (first_place ranks (length columns) k) (row_at columns k)) (range_with_len 0 (length ranks))
    (λ j d lt. row_of_values (first_place ranks (length columns) (get_or (range_with_len 0 (length ranks)) j d)) columns (get_or (range_with_len 0 (length ranks)) j d) h)
