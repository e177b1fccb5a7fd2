-- Samples of a key, and the frame of their points.
use Rattle.std.proofs.Common.{◌≡◌, ℕ, suc, ◌+◌, ◌<◌, ◌≤◌, ◌⊎◌, inl, inr, List, [], ◌∷◌, ◌++◌, length, map, get_or, take, ℤ, pos, refl, sym, ap, ◌∙◌, subst, arith}
use Rattle.std.specs.Prelude.{replicate}
use Rattle.std.specs.List.{All, Contains, flat_map, range_with_len}
use Rattle.std.proofs.lemmas.List.{length-map, get_or-map}
use Rattle.std.proofs.lemmas.List.Elements.{Contains-get_or}
use Rattle.std.proofs.lemmas.Option.{get_or_from_slice_get}
use Rattle.arr_core.specs.declared.domain.Axis.{Axis}
use Rattle.arr_core.specs.Domains.{points, count, IsBoxOf, AreOrdered}
use Rattle.arr_core.specs.Tiles.{tile_boxes}
use Rattle.wcps_mean.specs.declared.cell.Outcome.{Outcome}
use Rattle.wcps_mean.specs.declared.cell.Outcome.TheVariants.{Value}
use Rattle.plan_ir.specs.Bodies.{Tree}
use Rattle.plan_ir.specs.Planned.{cells_of}
use Rattle.plan_ir.specs.Run.{run}
use Rattle.tile_kernel.specs.Columns.{outcome_at}
use Rattle.tile_columns.specs.declared.ground.Ground.{Ground}
use Rattle.tile_columns.specs.Frames.{extended}
use Rattle.tile_columns.specs.Meaning.{meaning, IsColumnOf}
use Rattle.tile_columns.specs.Sources.{SourceState}
use Rattle.tile_columns.specs.TileOrder.{points_to}
use Rattle.tile_columns.proofs.Boxes.{box-inside}
use Rattle.tile_columns.proofs.Ranges.{by_places, same_over}
use Rattle.tile_columns.proofs.TileOrders.{take_whole, take_more, taken_le, points_whole}
use Rattle.tile_exec.specs.declared.samples.Sample.{Sample}
use Rattle.tile_exec.specs.Known.{point_of, IsSampleOf, IsPointOf, AddsPoint, IsPointIn, AddsPoints}

-- what holds of each sample that was there, and of each new one, holds of all
pub kept_all : (P New : Sample → Type 0) (old new : List Sample) → All P old → All (λ (x : Sample). Contains old x ⊎ New x) new → ((x : Sample) → New x → P x) → All P new
kept_all P New old new all adds fresh k d lt = elim (adds k d lt) [
  | inl c ↦ subst P c.2 (all c.0 (get_or new k d) c.1)
  | inr n ↦ fresh (get_or new k d) n
]

pub none_added : (part : List Axis) (place : ℕ) (key : Outcome) (xs : List Sample) → AddsPoint part place key xs xs
none_added part place key xs k d lt = inl (Contains-get_or xs k d lt)

pub none_so_far : (part : List Axis) (keys : List Outcome) (xs : List Sample) → AddsPoints part keys xs xs
none_so_far part keys xs k d lt = inl (Contains-get_or xs k d lt)

-- one more place
pub more_added : (part : List Axis) (keys : List Outcome) (place : ℕ) (o : Outcome) (old now new : List Sample) → place < length keys → outcome_at keys place ≡ o → AddsPoints part keys old now → AddsPoint part place o now new → AddsPoints part keys old new
more_added part keys place o old now new lt is before adds =
    kept_all (λ (x : Sample). Contains old x ⊎ IsPointIn part keys x) (IsPointOf part place o) now new before adds
    (λ x n. inr (record { place = place; below = lt; is = subst (λ o. IsPointOf part place o x) (sym is) n }))

-- the number of a sample that was added
number_there : {K : Type 0} (s now : SourceState K) (g : Ground) (part : List Axis) (key : Tree) (keys : List Outcome) (x : Sample) → now.cells ≡ s.cells → keys ≡ map (meaning now g key) (points part) → IsPointIn part keys x → meaning s g key (point_of x) ≡ Value x.number
number_there s now g part key keys x same is n =
    let f = meaning now g key in
    let h = n.is in
    let below = n.below in
    let lt : n.place < length (points part) = omega (arith, below, ap length is, length-map (points part) f) in
    let at : outcome_at keys n.place ≡ f (get_or (points part) n.place []) = ap (λ l. outcome_at l n.place) is ∙ get_or-map f (points part) n.place [] (Value (pos 0)) lt in
    let there : get_or (points part) n.place [] ≡ point_of x = get_or_from_slice_get (points part) n.place (point_of x) [] h.there in
    sym (ap (λ c. run (cells_of c g.coverages.now) g.registers.now key (point_of x)) same) ∙ sym (ap f there) ∙ sym at ∙ h.key

-- samples of one more part of a box
pub samples_more : {K : Type 0} (s now : SourceState K) (g : Ground) (area part : List Axis) (key : Tree) (keys : List Outcome) (old new : List Sample) → IsBoxOf area part → now.cells ≡ s.cells → (s.intact → now.intact) → IsColumnOf now g key (points part) keys
    → AddsPoints part keys old new → All (IsSampleOf s g area key) old → All (IsSampleOf s g area key) new
samples_more s now g area part key keys old new box same intact is adds all =
    kept_all (IsSampleOf s g area key) (IsPointIn part keys) old new all adds
    (λ x n. record {
      inside = (let h = n.is in box-inside area part (point_of x) box h.inside);
      number = λ i. number_there s now g part key keys x same (is (intact i)) n;
    })

-- the points of the first tiles are among those of the box
pub points_at_most : (area : List Axis) (t : ℕ) → AreOrdered area → length (points_to area t) ≤ count area
points_at_most area t ordered =
    let all = points_whole area ordered in
    let whole = ap (λ l. length (flat_map points l)) (take_whole (length (tile_boxes area)) (tile_boxes area) (omega arith)) in
    let some = taken_le points (tile_boxes area) t in
    omega (arith, all, whole, some)

-- ---- the frame of their points

pub points_first : (xs : List Sample) → replicate (length xs) [] ≡ map (λ (x : Sample). take 0 (point_of x)) xs
points_first [] = refl
points_first (x ∷ xs) = ap (λ l. [] ∷ l) (points_first xs)

next_at : (axis : ℕ) (y : Sample) (ys : List Sample) → All (λ (x : Sample). axis < length (point_of x)) (y ∷ ys)
    → extended (map (λ (x : Sample). take axis (point_of x)) (y ∷ ys)) (map (λ (x : Sample). get_or (point_of x) axis (pos 0)) (y ∷ ys)) ≡ map (λ (x : Sample). take (axis + 1) (point_of x)) (y ∷ ys)
next_at axis y ys deep =
    let xs = y ∷ ys in
    let F = λ (x : Sample). take axis (point_of x) in
    let G = λ (x : Sample). get_or (point_of x) axis (pos 0) in
    let H = λ (x : Sample). take (axis + 1) (point_of x) in
    let n = length-map xs F in
    same_over (λ k. get_or (map F xs) k [] ++ get_or (map G xs) k (pos 0) ∷ []) (λ k. H (get_or xs k y)) (length (map F xs))
    (λ k lt.
    let within : k < length xs = omega (arith, lt, n) in
    let x = get_or xs k y in
    ap (λ l. l ++ get_or (map G xs) k (pos 0) ∷ []) (get_or-map F xs k y [] within)
    ∙ ap (λ z. take axis (point_of x) ++ z ∷ []) (get_or-map G xs k y (pos 0) within)
    ∙ sym (take_more axis (point_of x) (pos 0) (deep k y within)))
    ∙ ap (λ m. map (λ k. H (get_or xs k y)) (range_with_len 0 m)) n
    ∙ sym (by_places H xs y)

-- with the coordinates of one more axis
pub points_next : (axis : ℕ) (xs : List Sample) (numbers : List ℤ) (frame new : List (List ℤ)) → frame ≡ map (λ (x : Sample). take axis (point_of x)) xs → numbers ≡ map (λ (x : Sample). get_or (point_of x) axis (pos 0)) xs → new ≡ extended frame numbers
    → All (λ (x : Sample). axis < length (point_of x)) xs → new ≡ map (λ (x : Sample). take (axis + 1) (point_of x)) xs
points_next axis [] numbers frame new f n is deep = is ∙ ap (λ l. extended l numbers) f
points_next axis (y ∷ ys) numbers frame new f n is deep = is ∙ ap (λ l. extended l numbers) f ∙ ap (extended (map (λ (x : Sample). take axis (point_of x)) (y ∷ ys))) n ∙ next_at axis y ys deep

cut : (axis : ℕ) (xs : List Sample) → All (λ (x : Sample). length (point_of x) ≡ axis) xs → map (λ (x : Sample). take axis (point_of x)) xs ≡ map point_of xs
cut axis [] deep = refl
cut axis (x ∷ xs) deep =
    let n = deep 0 x (omega arith) in
    ap (λ p. p ∷ map (λ (x : Sample). take axis (point_of x)) xs) (take_whole axis (point_of x) (omega (arith, n)))
    ∙ ap (λ l. point_of x ∷ l) (cut axis xs (λ k d lt. deep (suc k) d (omega arith)))

pub points_all : (axis : ℕ) (xs : List Sample) (frame : List (List ℤ)) → frame ≡ map (λ (x : Sample). take axis (point_of x)) xs → All (λ (x : Sample). length (point_of x) ≡ axis) xs → frame ≡ map point_of xs
points_all axis xs frame f deep = f ∙ cut axis xs deep
