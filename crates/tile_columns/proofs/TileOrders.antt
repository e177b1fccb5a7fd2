-- What the points of a box tell tile by tile is what they tell in row-major order, in another order.
use Rattle.std.proofs.Common.{◌≡◌, ℕ, zero, suc, ◌<◌, ◌≤◌, ◌+◌, ◌^◌, List, [], ◌∷◌, ◌++◌, length, get_or, map, map-id, ℤ, take, refl, sym, ap, ◌∙◌, subst, arith, length-append, append-nil}
use Rattle.std.specs.List.{flat_map, range_with_len}
use Rattle.std.specs.List.Sorted.{IsPermutation}
use Rattle.std.proofs.lemmas.List.Sorted.{length_permutation}
use Rattle.std.proofs.lemmas.List.Folds.{flat_map-map}
use Rattle.std.proofs.lemmas.Grind.{flat_map-append}
use Rattle.arr_core.specs.declared.domain.Axis.{Axis}
use Rattle.arr_core.specs.Domains.{points, count, point_at, IsDomain, AreOrdered}
use Rattle.arr_core.specs.Tiles.{edge_of, grid, box_at, tile_boxes, tile_box}
use Rattle.arr_core.proofs.Points.{length-points, at_place, count-pos}
use Rattle.arr_core.proofs.Grids.{edge-some, length-tile_boxes, count-grid}
use Rattle.tile_columns.specs.TileOrder.{points_to}
use Rattle.tile_columns.proofs.Ranges.{by_places, same_over}
use Rattle.tile_columns.proofs.Reorders.{tiles_reordered, flat_map_nested}

pub take_whole : {X : Type 0} (n : ℕ) (xs : List X) → length xs ≤ n → take n xs ≡ xs
take_whole zero [] h = refl
take_whole (suc n) [] h = refl
take_whole zero (x ∷ xs) h = absurd (omega arith)
take_whole (suc n) (x ∷ xs) h = ap (λ l. x ∷ l) (take_whole n xs (omega arith))

pub take_more : {X : Type 0} (n : ℕ) (xs : List X) (d : X) → n < length xs → take (n + 1) xs ≡ take n xs ++ get_or xs n d ∷ []
take_more zero [] d h = absurd (omega arith)
take_more (suc n) [] d h = absurd (omega arith)
take_more zero (x ∷ xs) d h = refl
take_more (suc n) (x ∷ xs) d h =
    let e : suc n + 1 ≡ suc (n + 1) = omega arith in
    ap (λ k. take k (x ∷ xs)) e ∙ ap (λ l. x ∷ l) (take_more n xs d (omega arith))

pub points_more : (area : List Axis) (t : ℕ) → t < length (tile_boxes area) → points_to area (t + 1) ≡ points_to area t ++ points (tile_box area t)
points_more area t lt =
    ap (flat_map points) (take_more t (tile_boxes area) [] lt)
    ∙ flat_map-append points (take t (tile_boxes area)) (tile_box area t ∷ [])
    ∙ ap (λ l. points_to area t ++ l) (append-nil (points (tile_box area t)))

-- what one more tile tells comes behind
pub told_more : {Y : Type 0} (g : List ℤ → List Y) (area : List Axis) (t : ℕ) → t < length (tile_boxes area) → flat_map g (points_to area (t + 1)) ≡ flat_map g (points_to area t) ++ flat_map g (points (tile_box area t))
told_more g area t lt = ap (flat_map g) (points_more area t lt) ∙ flat_map-append g (points_to area t) (points (tile_box area t))

pub told_all : {Y : Type 0} (g : List ℤ → List Y) (area : List Axis) → AreOrdered area → IsPermutation (flat_map g (points_to area (length (tile_boxes area)))) (flat_map g (points area))
told_all g area ordered =
    let edge = edge_of (length area) in
    let cells = points (grid edge area) in
    let whole : points_to area (length (tile_boxes area)) ≡ flat_map points (tile_boxes area) = ap (flat_map points) (take_whole (length (tile_boxes area)) (tile_boxes area) (omega arith)) in
    let opened : flat_map g (flat_map points (tile_boxes area)) ≡ flat_map (λ t. flat_map g (points (box_at edge area t))) cells =
    flat_map_nested g points (tile_boxes area) ∙ flat_map-map (λ b. flat_map g (points b)) (box_at edge area) cells in
    subst (λ l. IsPermutation l (flat_map g (points area))) (sym (ap (flat_map g) whole ∙ opened)) (tiles_reordered g edge area (edge-some (length area)) ordered)

pub single : {X : Type 0} (xs : List X) → flat_map (λ x. x ∷ []) xs ≡ xs
single [] = refl
single (x ∷ xs) = ap (λ l. x ∷ l) (single xs)

pub taken_le : {X Y : Type 0} (f : X → List Y) (xs : List X) (k : ℕ) → length (flat_map f (take k xs)) ≤ length (flat_map f xs)
taken_le f [] zero = omega arith
taken_le f [] (suc k) = omega arith
taken_le f (x ∷ xs) zero = omega arith
taken_le f (x ∷ xs) (suc k) =
    let h = taken_le f xs k in
    let a = length-append (f x) (flat_map f (take k xs)) in
    let b = length-append (f x) (flat_map f xs) in
    omega (arith, h, a, b)

-- all tiles have the points of the box
pub points_whole : (area : List Axis) → AreOrdered area → length (points_to area (length (tile_boxes area))) ≡ count area
points_whole area ordered =
    let all = points_to area (length (tile_boxes area)) in
    let n = length_permutation (flat_map (λ p. p ∷ []) all) (flat_map (λ p. p ∷ []) (points area)) (told_all (λ p. p ∷ []) area ordered) in
    let u = ap length (single all) in
    let v = ap length (single (points area)) in
    let c = length-points area in
    omega (arith, n, u, v, c)

pub points_few : (area : List Axis) (t : ℕ) → IsDomain area → length (points_to area t) ≤ 2 ^ 24
points_few area t d =
    let h = taken_le points (tile_boxes area) t in
    let w = ap (λ l. length (flat_map points l)) (take_whole (length (tile_boxes area)) (tile_boxes area) (omega arith)) in
    let n = points_whole area d.ordered in
    let few = d.few_points in
    omega (arith, h, w, n, few)

-- the points of a domain by their places
pub points_by_place : (area : List Axis) → points area ≡ map (point_at area) (range_with_len 0 (count area))
points_by_place area =
    let n = length-points area in
    sym (map-id (points area)) ∙ by_places (λ p. p) (points area) [] ∙ ap (λ n. map (λ k. get_or (points area) k []) (range_with_len 0 n)) n ∙ same_over (λ k. get_or (points area) k []) (point_at area) (count area) (λ k lt. at_place area k [] lt)

pub tiles-pos : (area : List Axis) → 0 < length (tile_boxes area)
tiles-pos area = let n = length-tile_boxes area in let c = count-pos (grid (edge_of (length area)) area) in omega arith

pub tiles-few : (area : List Axis) → length (tile_boxes area) ≤ count area
tiles-few area = let n = length-tile_boxes area in let c = count-grid (edge_of (length area)) area in omega (arith, n, c)
