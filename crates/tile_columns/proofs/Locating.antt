-- Tiles and ranks, counted one axis after the other.
use Rattle.std.proofs.Common.{◌≡◌, ℕ, ◌+◌, ◌-◌, ◌*◌, ◌/◌, ◌<◌, ◌≤◌, ◌^◌, List, [], ◌∷◌, length, get_or, take, drop, map, refl, sym, ap, ◌∙◌, subst, arith, ℤ, pos, ◌+ℤ◌}
use Rattle.std.specs.Prelude.{◌≤ℤ◌, min, replicate, Option, Some, None}
use Rattle.std.specs.List.{All}
use Rattle.std.proofs.lemmas.Int.{ints}
use Rattle.std.proofs.lemmas.List.{length-map, get_or-map, get_or-replicate}
use Rattle.std.proofs.lemmas.List.FromFn.{fill_by_all}
use Rattle.std.proofs.Math.Nat.{add-mul, mul_assoc, mul-le-mul_left, div-mul-le_self}
use Rattle.arr_core.specs.declared.domain.Axis.{Axis}
use Rattle.arr_core.specs.declared.signature.Signature.{Signature}
use Rattle.arr_core.specs.Domains.{gap, size_of, points, count, IsDomain, IsInside, rank_of, point_at}
use Rattle.arr_core.specs.Tiles.{edge_of, grid, part_of, box_at, tile_boxes}
use Rattle.arr_core.specs.Meeting.{tile_at, tile_number}
use Rattle.arr_core.proofs.Points.{lo-add-gap, count-pos, length-points, rank_of-lt-count, at_rank, point-rank}
use Rattle.arr_core.proofs.Grids.{cell_of, size-cell, count-grid, tile_at-inside, at-box, get_or-tile_boxes, length-tile_boxes, edge-some, part-hi}
use Rattle.arr_core.proofs.Boxes.{tile-small}
use Rattle.arr_core.proofs.FirstAxis.{cut}
use Rattle.plan_ir.specs.declared.body.Index.{Index}
use Rattle.plan_ir.specs.Run.{number_at, numbers_at}
use Rattle.tile_columns.specs.Sources.{IsRead, HasTile, box_of}
use Rattle.tile_columns.specs.Locating.{rank_in_tile, tile_on, rank_on, tile_from, rank_from}
use Rattle.tile_columns.proofs.Ranges.{by_places}

-- the point that the indexes give at a place
abbrev pub point_of : List Index → List (List ℤ) → ℕ → List ℤ
point_of is envs k = numbers_at (get_or envs k []) is

fold_step : (t s q c r : ℕ) → (t * s + q) * c + r ≡ t * (s * c) + (q * c + r)
fold_step t s q c r = omega (arith, add-mul (t * s) q c, mul_assoc t s c)

-- how far a coordinate is above another, both counted from a third
shifted : (lo : ℤ) (m n : ℕ) → m ≤ n → gap (lo +ℤ pos m) (lo +ℤ pos n) ≡ n - m
shifted lo m n le = omega (arith, ints)

from_zero : (q : ℕ) → gap (pos 0) (pos q) ≡ q
from_zero q = omega (arith, ints)

pub gap_below : (lo hi x : ℤ) → lo ≤ℤ x → x ≤ℤ hi → gap lo x ≤ gap lo hi
gap_below lo hi x l h = omega (arith, ints)

size_part : (edge : ℕ) (a : Axis) (q : ℕ) → a.lo ≤ℤ a.hi → q * edge ≤ gap a.lo a.hi → size_of (part_of edge a (pos q)) ≡ (min (gap a.lo a.hi) (q * edge + (edge - 1)) - q * edge) + 1
size_part edge a q o le =
    let between : q * edge ≤ min (gap a.lo a.hi) (q * edge + (edge - 1)) = omega (arith, le) in
    ap (λ z. gap (a.lo +ℤ pos (q * edge)) z + 1) (sym (part-hi edge a q o))
    ∙ ap (λ n. n + 1) (shifted a.lo (q * edge) (min (gap a.lo a.hi) (q * edge + (edge - 1))) between)

gap_part : (edge : ℕ) (a : Axis) (x : ℤ) (q : ℕ) → a.lo ≤ℤ x → q * edge ≤ gap a.lo x → gap (part_of edge a (pos q)).lo x ≡ gap a.lo x - q * edge
gap_part edge a x q l le =
    ap (λ z. gap (a.lo +ℤ pos (q * edge)) z) (sym (lo-add-gap a.lo x l)) ∙ shifted a.lo (q * edge) (gap a.lo x) le

-- the number of the tile is its rank among the tiles
tile_sum : (edge : ℕ) (axes : List Axis) (t : ℕ) (p : List ℤ) → IsInside axes p → tile_from edge axes t p ≡ t * count (grid edge axes) + rank_of (grid edge axes) (tile_at edge axes p)
tile_sum edge [] t [] h = omega arith
tile_sum edge [] t (x ∷ p) h = absurd h
tile_sum edge (a ∷ axes) t [] h = absurd h
tile_sum edge (a ∷ axes) t (x ∷ p) h =
    tile_sum edge axes (tile_on edge (gap a.lo a.hi) t (gap a.lo x)) p h.2
    ∙ fold_step t (gap a.lo a.hi / edge + 1) (gap a.lo x / edge) (count (grid edge axes)) (rank_of (grid edge axes) (tile_at edge axes p))
    ∙ ap (λ s. t * (s * count (grid edge axes)) + ((gap a.lo x / edge) * count (grid edge axes) + rank_of (grid edge axes) (tile_at edge axes p))) (sym (size-cell edge a))
    ∙ ap (λ q. t * (size_of (cell_of edge a) * count (grid edge axes)) + (q * count (grid edge axes) + rank_of (grid edge axes) (tile_at edge axes p))) (sym (from_zero (gap a.lo x / edge)))

-- the rank is that in the box of the point's tile
rank_sum : (edge : ℕ) (axes : List Axis) (r : ℕ) (p : List ℤ) → IsInside axes p → rank_from edge axes r p ≡ r * count (box_at edge axes (tile_at edge axes p)) + rank_of (box_at edge axes (tile_at edge axes p)) p
rank_sum edge [] r [] h = omega arith
rank_sum edge [] r (x ∷ p) h = absurd h
rank_sum edge (a ∷ axes) r [] h = absurd h
rank_sum edge (a ∷ axes) r (x ∷ p) h =
    let below : gap a.lo x / edge * edge ≤ gap a.lo x = div-mul-le_self (gap a.lo x) edge in
    let order : a.lo ≤ℤ a.hi = omega (arith, ints, h.0, h.1) in
    let within : gap a.lo x / edge * edge ≤ gap a.lo a.hi = omega (arith, below, gap_below a.lo a.hi x h.0 h.1) in
    rank_sum edge axes (rank_on edge (gap a.lo a.hi) r (gap a.lo x)) p h.2
    ∙ fold_step r ((min (gap a.lo a.hi) (gap a.lo x / edge * edge + (edge - 1)) - gap a.lo x / edge * edge) + 1) (gap a.lo x - gap a.lo x / edge * edge) (count (box_at edge axes (tile_at edge axes p))) (rank_of (box_at edge axes (tile_at edge axes p)) p)
    ∙ ap (λ s. r * (s * count (box_at edge axes (tile_at edge axes p))) + ((gap a.lo x - gap a.lo x / edge * edge) * count (box_at edge axes (tile_at edge axes p)) + rank_of (box_at edge axes (tile_at edge axes p)) p)) (sym (size_part edge a (gap a.lo x / edge) order within))
    ∙ ap (λ g. r * (size_of (part_of edge a (pos (gap a.lo x / edge))) * count (box_at edge axes (tile_at edge axes p))) + (g * count (box_at edge axes (tile_at edge axes p)) + rank_of (box_at edge axes (tile_at edge axes p)) p)) (sym (gap_part edge a x (gap a.lo x / edge) h.0 below))

at_least : (t c r : ℕ) → 0 < c → t ≤ t * c + r
at_least t c r h = let m : t * 1 ≤ t * c = mul-le-mul_left t h in omega (arith, m)

-- what has been counted does not fall
pub tile_least : (edge : ℕ) (axes : List Axis) (t : ℕ) (p : List ℤ) → IsInside axes p → t ≤ tile_from edge axes t p
tile_least edge axes t p h = omega (arith, tile_sum edge axes t p h, at_least t (count (grid edge axes)) (rank_of (grid edge axes) (tile_at edge axes p)) (count-pos (grid edge axes)))

pub rank_least : (edge : ℕ) (axes : List Axis) (r : ℕ) (p : List ℤ) → IsInside axes p → r ≤ rank_from edge axes r p
rank_least edge axes r p h = omega (arith, rank_sum edge axes r p h, at_least r (count (box_at edge axes (tile_at edge axes p))) (rank_of (box_at edge axes (tile_at edge axes p)) p) (count-pos (box_at edge axes (tile_at edge axes p))))

pub tile_is : (axes : List Axis) (p : List ℤ) → IsInside axes p → tile_from (edge_of (length axes)) axes 0 p ≡ tile_number axes p
tile_is axes p h = omega (arith, tile_sum (edge_of (length axes)) axes 0 p h)

pub rank_is : (axes : List Axis) (p : List ℤ) → IsInside axes p → rank_from (edge_of (length axes)) axes 0 p ≡ rank_in_tile axes p
rank_is axes p h = omega (arith, rank_sum (edge_of (length axes)) axes 0 p h)

in_grid : (axes : List Axis) (p : List ℤ) → IsInside axes p → IsInside (grid (edge_of (length axes)) axes) (tile_at (edge_of (length axes)) axes p)
in_grid axes p h = tile_at-inside (edge_of (length axes)) axes p (edge-some (length axes)) h

tile_below : (axes : List Axis) (p : List ℤ) → IsInside axes p → tile_number axes p < count (grid (edge_of (length axes)) axes)
tile_below axes p h = rank_of-lt-count (grid (edge_of (length axes)) axes) (tile_at (edge_of (length axes)) axes p) (in_grid axes p h)

rank_below : (axes : List Axis) (p : List ℤ) → IsInside axes p → rank_in_tile axes p < count (box_at (edge_of (length axes)) axes (tile_at (edge_of (length axes)) axes p))
rank_below axes p h = rank_of-lt-count (box_at (edge_of (length axes)) axes (tile_at (edge_of (length axes)) axes p)) p (at-box (edge_of (length axes)) axes p (edge-some (length axes)) h)

pub tile_few : (axes : List Axis) (p : List ℤ) → IsDomain axes → IsInside axes p → tile_from (edge_of (length axes)) axes 0 p < 2 ^ 24
tile_few axes p d h = omega (arith, tile_is axes p h, tile_below axes p h, count-grid (edge_of (length axes)) axes, d.few_points)

pub rank_few : (axes : List Axis) (p : List ℤ) → IsDomain axes → IsInside axes p → rank_from (edge_of (length axes)) axes 0 p < 2 ^ 24
rank_few axes p d h = omega (arith, rank_is axes p h, rank_below axes p h, tile-small axes (tile_at (edge_of (length axes)) axes p) (edge-some (length axes)) d (in_grid axes p h))

-- the box of a point's tile
own_box : (axes : List Axis) (n : ℕ) (p : List ℤ) → IsInside axes p → n ≡ tile_number axes p → get_or (tile_boxes axes) n [] ≡ box_at (edge_of (length axes)) axes (tile_at (edge_of (length axes)) axes p)
own_box axes n p h e =
    get_or-tile_boxes axes n [] (omega (arith, e, tile_below axes p h))
    ∙ ap (λ k. box_at (edge_of (length axes)) axes (point_at (grid (edge_of (length axes)) axes) k)) e
    ∙ ap (box_at (edge_of (length axes)) axes) (point-rank (grid (edge_of (length axes)) axes) (tile_at (edge_of (length axes)) axes p) (in_grid axes p h))

pub tile_within : (axes : List Axis) (n : ℕ) (p : List ℤ) → IsInside axes p → n ≡ tile_number axes p → n < length (tile_boxes axes)
tile_within axes n p h e = omega (arith, e, tile_below axes p h, length-tile_boxes axes)

pub rank_within : (axes : List Axis) (n : ℕ) (p : List ℤ) (cells : List ℤ) → IsInside axes p → n ≡ tile_number axes p → length cells ≡ count (get_or (tile_boxes axes) n []) → rank_in_tile axes p < length cells
rank_within axes n p cells h e l = omega (arith, l, ap count (own_box axes n p h e), rank_below axes p h)

-- the cell of a point stands at its rank in the cells of its tile
pub cell_there : (axes : List Axis) (n : ℕ) (p : List ℤ) (s : List ℤ → ℤ) (cells : List ℤ) → IsInside axes p → n ≡ tile_number axes p → cells ≡ map s (points (get_or (tile_boxes axes) n [])) → get_or cells (rank_in_tile axes p) (pos 0) ≡ s p
cell_there axes n p s cells h e c =
    let inside = at-box (edge_of (length axes)) axes p (edge-some (length axes)) h in
    let lt : rank_in_tile axes p < length (points (box_at (edge_of (length axes)) axes (tile_at (edge_of (length axes)) axes p))) = omega (arith, rank_below axes p h, length-points (box_at (edge_of (length axes)) axes (tile_at (edge_of (length axes)) axes p))) in
    ap (λ l. get_or l (rank_in_tile axes p) (pos 0)) (c ∙ ap (λ b. map s (points b)) (own_box axes n p h e))
    ∙ get_or-map s (points (box_at (edge_of (length axes)) axes (tile_at (edge_of (length axes)) axes p))) (rank_in_tile axes p) [] (pos 0) lt
    ∙ ap s (at_rank (box_at (edge_of (length axes)) axes (tile_at (edge_of (length axes)) axes p)) p [] inside)

-- the point that stands at its rank in the box of its tile, and its rank
pub point_there : (axes : List Axis) (n : ℕ) (p : List ℤ) → IsInside axes p → n ≡ tile_number axes p → get_or (points (get_or (tile_boxes axes) n [])) (rank_in_tile axes p) [] ≡ p
point_there axes n p h e =
    ap (λ b. get_or (points b) (rank_in_tile axes p) []) (own_box axes n p h e)
    ∙ at_rank (box_at (edge_of (length axes)) axes (tile_at (edge_of (length axes)) axes p)) p [] (at-box (edge_of (length axes)) axes p (edge-some (length axes)) h)

pub rank_there : (axes : List Axis) (n : ℕ) (p : List ℤ) → IsInside axes p → n ≡ tile_number axes p → rank_in_tile axes p < count (get_or (tile_boxes axes) n [])
rank_there axes n p h e = omega (arith, ap count (own_box axes n p h e), rank_below axes p h)

-- a tile of what is read
pub tile_here : (o : Option Signature) (field n : ℕ) (domain : List Axis) → IsRead o field domain → n < length (tile_boxes domain) → HasTile o field n × (box_of o n ≡ get_or (tile_boxes domain) n [])
tile_here None field n domain h lt = absurd h
tile_here (Some c) field n domain h lt = ((h.0, subst (λ d. n < length (tile_boxes d)) (sym h.1) lt), ap (λ d. get_or (tile_boxes d) n []) h.1)

-- ---- all places

zero_there : (start : List ℕ) (n k : ℕ) → start ≡ replicate n 0 → k < n → get_or start k 0 ≡ 0
zero_there start n k e lt = ap (λ s. get_or s k 0) e ∙ get_or-replicate n k 0 0 lt

pub start_few : (axes : List Axis) (is : List Index) (envs : List (List ℤ)) (tiles ranks : List ℕ) → IsDomain axes → All (λ e. IsInside axes (numbers_at e is)) envs → tiles ≡ replicate (length envs) 0 → ranks ≡ replicate (length envs) 0
    → (k : ℕ) → k < length envs → (tile_from (edge_of (length axes)) axes (get_or tiles k 0) (point_of is envs k) < 2 ^ 24) × (rank_from (edge_of (length axes)) axes (get_or ranks k 0) (point_of is envs k) < 2 ^ 24)
start_few axes is envs tiles ranks d inside t r k lt = (
  subst (λ n. tile_from (edge_of (length axes)) axes n (point_of is envs k) < 2 ^ 24) (sym (zero_there tiles (length envs) k t lt)) (tile_few axes (point_of is envs k) d (inside k [] lt)),
  subst (λ n. rank_from (edge_of (length axes)) axes n (point_of is envs k) < 2 ^ 24) (sym (zero_there ranks (length envs) k r lt)) (rank_few axes (point_of is envs k) d (inside k [] lt)),
)

pub all_tiles : (axes : List Axis) (is : List Index) (envs : List (List ℤ)) (start ns : List ℕ) → All (λ e. IsInside axes (numbers_at e is)) envs → start ≡ replicate (length envs) 0 → length ns ≡ length envs
    → ((k : ℕ) → k < length envs → get_or ns k 0 ≡ tile_from (edge_of (length axes)) axes (get_or start k 0) (point_of is envs k)) → ns ≡ map (λ e. tile_number axes (numbers_at e is)) envs
all_tiles axes is envs start ns inside s l h =
    fill_by_all (λ k. tile_number axes (numbers_at (get_or envs k []) is)) ns (length envs) 0 l (λ k lt.
    h k lt ∙ ap (λ t. tile_from (edge_of (length axes)) axes t (point_of is envs k)) (zero_there start (length envs) k s lt) ∙ tile_is axes (point_of is envs k) (inside k [] lt))
    ∙ sym (by_places (λ e. tile_number axes (numbers_at e is)) envs [])

pub all_ranks : (axes : List Axis) (is : List Index) (envs : List (List ℤ)) (start ns : List ℕ) → All (λ e. IsInside axes (numbers_at e is)) envs → start ≡ replicate (length envs) 0 → length ns ≡ length envs
    → ((k : ℕ) → k < length envs → get_or ns k 0 ≡ rank_from (edge_of (length axes)) axes (get_or start k 0) (point_of is envs k)) → ns ≡ map (λ e. rank_in_tile axes (numbers_at e is)) envs
all_ranks axes is envs start ns inside s l h =
    fill_by_all (λ k. rank_in_tile axes (numbers_at (get_or envs k []) is)) ns (length envs) 0 l (λ k lt.
    h k lt ∙ ap (λ t. rank_from (edge_of (length axes)) axes t (point_of is envs k)) (zero_there start (length envs) k s lt) ∙ rank_is axes (point_of is envs k) (inside k [] lt))
    ∙ sym (by_places (λ e. rank_in_tile axes (numbers_at e is)) envs [])

-- ---- the first axis, then the others

pub record Head (edge : ℕ) (axes rest : List Axis) (a : Axis) (is further : List Index) (i : Index) (envs : List (List ℤ)) : Type 0 where
  pub inside : (k : ℕ) → k < length envs → (a.lo ≤ℤ number_at (get_or envs k []) i) × (number_at (get_or envs k []) i ≤ℤ a.hi)
  pub further_inside : All (λ e. IsInside rest (numbers_at e further)) envs
  pub tile : (k t : ℕ) → tile_from edge axes t (point_of is envs k) ≡ tile_from edge rest (tile_on edge (gap a.lo a.hi) t (gap a.lo (number_at (get_or envs k []) i))) (point_of further envs k)
  pub rank : (k r : ℕ) → rank_from edge axes r (point_of is envs k) ≡ rank_from edge rest (rank_on edge (gap a.lo a.hi) r (gap a.lo (number_at (get_or envs k []) i))) (point_of further envs k)

pub head : (edge : ℕ) (axes rest : List Axis) (a : Axis) (is further : List Index) (i : Index) (envs : List (List ℤ)) → axes ≡ a ∷ rest → is ≡ i ∷ further → All (λ e. IsInside axes (numbers_at e is)) envs → Head edge axes rest a is further i envs
head edge axes rest a is further i envs e f inside =
    let h : All (λ e. IsInside (a ∷ rest) (numbers_at e (i ∷ further))) envs =
    subst (λ axs. All (λ e. IsInside axs (numbers_at e (i ∷ further))) envs) e (subst (λ js. All (λ e. IsInside axes (numbers_at e js)) envs) f inside) in
    record {
      inside = λ k lt. ((h k [] lt).0, (h k [] lt).1);
      further_inside = λ k d lt. (h k d lt).2;
      tile = λ k t. ap (λ axs. tile_from edge axs t (point_of is envs k)) e ∙ ap (λ js. tile_from edge (a ∷ rest) t (point_of js envs k)) f;
      rank = λ k r. ap (λ axs. rank_from edge axs r (point_of is envs k)) e ∙ ap (λ js. rank_from edge (a ∷ rest) r (point_of js envs k)) f;
    }

below_of : (m n k : ℕ) → m ≤ k → n ≡ k → n < 2 ^ 24 → m < 2 ^ 24
below_of m n k le e lt = omega (arith, le, e, lt)

-- the coordinates of the first axis
pub axis_inside : (edge : ℕ) (axes rest : List Axis) (a : Axis) (is further : List Index) (i : Index) (envs : List (List ℤ)) (xs : List ℤ) (lo : ℤ) (last : ℕ) → Head edge axes rest a is further i envs → xs ≡ map (λ e. number_at e i) envs → lo ≡ a.lo → last ≡ gap a.lo a.hi
    → (k : ℕ) → k < length xs → (lo ≤ℤ get_or xs k (pos 0)) × (gap lo (get_or xs k (pos 0)) ≤ last)
axis_inside edge axes rest a is further i envs xs lo last h x l m k lt =
    let n : length xs ≡ length envs = ap length x ∙ length-map envs (λ e. number_at e i) in
    let at : get_or xs k (pos 0) ≡ number_at (get_or envs k []) i = ap (λ zs. get_or zs k (pos 0)) x ∙ get_or-map (λ e. number_at e i) envs k [] (pos 0) (omega (arith, lt, n)) in
    let w = h.inside k (omega (arith, lt, n)) in
    rw (at, l, m) (w.0, gap_below a.lo a.hi (number_at (get_or envs k []) i) w.0 w.1)

axis_small_at : (edge : ℕ) (axes rest : List Axis) (a : Axis) (is further : List Index) (i : Index) (envs : List (List ℤ)) (xs : List ℤ) (lo : ℤ) (last : ℕ) (tiles ranks : List ℕ) → Head edge axes rest a is further i envs → xs ≡ map (λ e. number_at e i) envs → lo ≡ a.lo → last ≡ gap a.lo a.hi
    → ((k : ℕ) → k < length envs → (tile_from edge axes (get_or tiles k 0) (point_of is envs k) < 2 ^ 24) × (rank_from edge axes (get_or ranks k 0) (point_of is envs k) < 2 ^ 24))
    → (k : ℕ) → k < length xs → (tile_on edge last (get_or tiles k 0) (gap lo (get_or xs k (pos 0))) < 2 ^ 24) × (rank_on edge last (get_or ranks k 0) (gap lo (get_or xs k (pos 0))) < 2 ^ 24)
axis_small_at edge axes rest a is further i envs xs lo last tiles ranks h x l m small k lt =
    let n : length xs ≡ length envs = ap length x ∙ length-map envs (λ e. number_at e i) in
    let le : k < length envs = omega (arith, lt, n) in
    let at : get_or xs k (pos 0) ≡ number_at (get_or envs k []) i = ap (λ zs. get_or zs k (pos 0)) x ∙ get_or-map (λ e. number_at e i) envs k [] (pos 0) le in
    let t = tile_least edge rest (tile_on edge (gap a.lo a.hi) (get_or tiles k 0) (gap a.lo (number_at (get_or envs k []) i))) (point_of further envs k) (h.further_inside k [] le) in
    let r = rank_least edge rest (rank_on edge (gap a.lo a.hi) (get_or ranks k 0) (gap a.lo (number_at (get_or envs k []) i))) (point_of further envs k) (h.further_inside k [] le) in
    let s = small k le in
    rw (at, l, m) (below_of _ _ _ t (h.tile k (get_or tiles k 0)) s.0, below_of _ _ _ r (h.rank k (get_or ranks k 0)) s.1)

pub axis_small : (edge : ℕ) (axes rest : List Axis) (a : Axis) (is further : List Index) (i : Index) (envs : List (List ℤ)) (xs : List ℤ) (lo : ℤ) (last : ℕ) (tiles ranks : List ℕ) → Head edge axes rest a is further i envs → xs ≡ map (λ e. number_at e i) envs → lo ≡ a.lo → last ≡ gap a.lo a.hi
    → ((k : ℕ) → k < length envs → tile_from edge axes (get_or tiles k 0) (point_of is envs k) < 2 ^ 24) × ((k : ℕ) → k < length envs → rank_from edge axes (get_or ranks k 0) (point_of is envs k) < 2 ^ 24)
    → ((k : ℕ) → k < length xs → tile_on edge last (get_or tiles k 0) (gap lo (get_or xs k (pos 0))) < 2 ^ 24) × ((k : ℕ) → k < length xs → rank_on edge last (get_or ranks k 0) (gap lo (get_or xs k (pos 0))) < 2 ^ 24)
axis_small edge axes rest a is further i envs xs lo last tiles ranks h x l m few =
    let at = axis_small_at edge axes rest a is further i envs xs lo last tiles ranks h x l m (λ k lt. (few.0 k lt, few.1 k lt)) in
    (λ k lt. (at k lt).0, λ k lt. (at k lt).1)

-- what has been counted along the first axis is counted on along the others
pub counted_tile : (edge : ℕ) (axes rest : List Axis) (a : Axis) (is further : List Index) (i : Index) (envs : List (List ℤ)) (xs : List ℤ) (lo : ℤ) (last : ℕ) (tiles new : List ℕ) → Head edge axes rest a is further i envs → xs ≡ map (λ e. number_at e i) envs → lo ≡ a.lo → last ≡ gap a.lo a.hi
    → ((k : ℕ) → k < length xs → get_or new k 0 ≡ tile_on edge last (get_or tiles k 0) (gap lo (get_or xs k (pos 0))))
    → (k : ℕ) → k < length envs → tile_from edge rest (get_or new k 0) (point_of further envs k) ≡ tile_from edge axes (get_or tiles k 0) (point_of is envs k)
counted_tile edge axes rest a is further i envs xs lo last tiles new h x l m c k lt =
    let n : length xs ≡ length envs = ap length x ∙ length-map envs (λ e. number_at e i) in
    let at : get_or xs k (pos 0) ≡ number_at (get_or envs k []) i = ap (λ zs. get_or zs k (pos 0)) x ∙ get_or-map (λ e. number_at e i) envs k [] (pos 0) lt in
    ap (λ t. tile_from edge rest t (point_of further envs k)) (c k (omega (arith, lt, n)) ∙ ap (λ z. tile_on edge last (get_or tiles k 0) (gap lo z)) at ∙ ap (λ z. tile_on edge last (get_or tiles k 0) (gap z (number_at (get_or envs k []) i))) l ∙ ap (λ q. tile_on edge q (get_or tiles k 0) (gap a.lo (number_at (get_or envs k []) i))) m)
    ∙ sym (h.tile k (get_or tiles k 0))

pub counted_rank : (edge : ℕ) (axes rest : List Axis) (a : Axis) (is further : List Index) (i : Index) (envs : List (List ℤ)) (xs : List ℤ) (lo : ℤ) (last : ℕ) (ranks new : List ℕ) → Head edge axes rest a is further i envs → xs ≡ map (λ e. number_at e i) envs → lo ≡ a.lo → last ≡ gap a.lo a.hi
    → ((k : ℕ) → k < length xs → get_or new k 0 ≡ rank_on edge last (get_or ranks k 0) (gap lo (get_or xs k (pos 0))))
    → (k : ℕ) → k < length envs → rank_from edge rest (get_or new k 0) (point_of further envs k) ≡ rank_from edge axes (get_or ranks k 0) (point_of is envs k)
counted_rank edge axes rest a is further i envs xs lo last ranks new h x l m c k lt =
    let n : length xs ≡ length envs = ap length x ∙ length-map envs (λ e. number_at e i) in
    let at : get_or xs k (pos 0) ≡ number_at (get_or envs k []) i = ap (λ zs. get_or zs k (pos 0)) x ∙ get_or-map (λ e. number_at e i) envs k [] (pos 0) lt in
    ap (λ t. rank_from edge rest t (point_of further envs k)) (c k (omega (arith, lt, n)) ∙ ap (λ z. rank_on edge last (get_or ranks k 0) (gap lo z)) at ∙ ap (λ z. rank_on edge last (get_or ranks k 0) (gap z (number_at (get_or envs k []) i))) l ∙ ap (λ q. rank_on edge q (get_or ranks k 0) (gap a.lo (number_at (get_or envs k []) i))) m)
    ∙ sym (h.rank k (get_or ranks k 0))

-- a list that is not empty, cut after its first element
pub cut_first : {X : Type 0} (xs : List X) (d : X) → 1 ≤ length xs → xs ≡ get_or xs 0 d ∷ take (length xs - 1) (drop 1 xs)
cut_first [] d h = absurd (omega arith)
cut_first (y ∷ ys) d h = cut (y ∷ ys) y h refl

pub stays_below : (m n : ℕ) → m ≡ n → n < 2 ^ 24 → m < 2 ^ 24
stays_below m n e lt = omega (arith, e, lt)

-- the rank with one more coordinate, as it is computed
pub rank_here : (r to last edge n g : ℕ) → to ≡ min last (n / edge * edge + (edge - 1)) → n ≡ g → r * (to - n / edge * edge + 1) + (n - n / edge * edge) ≡ rank_on edge last r g
rank_here r to last edge n g t e = ap (λ m. r * (m - n / edge * edge + 1) + (n - n / edge * edge)) t ∙ ap (rank_on edge last r) e

pub start_from : (edge : ℕ) (all axes : List Axis) (is : List Index) (envs : List (List ℤ)) (tiles ranks : List ℕ) → edge ≡ edge_of (length all) → all ≡ axes → IsDomain axes → All (λ e. IsInside axes (numbers_at e is)) envs → tiles ≡ replicate (length envs) 0 → ranks ≡ replicate (length envs) 0
    → (k : ℕ) → k < length envs → (tile_from edge all (get_or tiles k 0) (point_of is envs k) < 2 ^ 24) × (rank_from edge all (get_or ranks k 0) (point_of is envs k) < 2 ^ 24)
start_from edge all axes is envs tiles ranks e a d inside t r k lt =
    subst (λ n. (tile_from n all (get_or tiles k 0) (point_of is envs k) < 2 ^ 24) × (rank_from n all (get_or ranks k 0) (point_of is envs k) < 2 ^ 24)) (sym e)
    (subst (λ x. (tile_from (edge_of (length x)) x (get_or tiles k 0) (point_of is envs k) < 2 ^ 24) × (rank_from (edge_of (length x)) x (get_or ranks k 0) (point_of is envs k) < 2 ^ 24)) (sym a)
    (start_few axes is envs tiles ranks d inside t r k lt))
