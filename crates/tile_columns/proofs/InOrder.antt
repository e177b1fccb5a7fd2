-- Places in the order of their tiles.
use Rattle.std.proofs.Common.{◌≡◌, ℕ, ◌+◌, ◌<◌, ◌≤◌, List, length, get_or, take, refl, sym, ap, ◌∙◌, subst, arith}
use Rattle.std.specs.List.{range_with_len}
use Rattle.std.specs.List.Sorted.{IsPermutation, IsNonDecreasingBy}
use Rattle.std.proofs.Common.{inl, inr}
use Rattle.std.proofs.lemmas.Bool.{cases_lt}
use Rattle.std.proofs.lemmas.List.{length-map, get_or-map}
use Rattle.std.proofs.lemmas.List.FromFn.{fill_by_all, get_or-map-range_with_len, length-map-range_with_len}
use Rattle.std.proofs.lemmas.List.Sorted.{IsPermutation-map, All-permutation, Contains-permutation}
use Rattle.tile_columns.specs.declared.spots.Spot.{Spot}
use Rattle.plan_ir.specs.Units.{distinct}
use Rattle.tile_columns.specs.Spots.{spot_at, all_spots, tiles_in, AreInOrder, IsStretch}
use Rattle.tile_columns.proofs.Ranges.{map_map}
use Rattle.tile_columns.proofs.Distinct.{as_many_permuted, one_more_different}

pub nothing : Spot
nothing = record { place = 0; tile = 0; rank = 0 }

-- the tile of a spot
pub tile_of : (spots : List Spot) (k : ℕ) (d : Spot) → k < length spots → get_or (tiles_in spots) k 0 ≡ (get_or spots k d).tile
tile_of spots k d lt = get_or-map (λ (s : Spot). s.tile) spots k d 0 lt

-- the tiles of all places
tiles_of_all : (tiles ranks : List ℕ) → tiles_in (all_spots tiles ranks) ≡ tiles
tiles_of_all tiles ranks =
    map_map (λ (s : Spot). s.tile) (spot_at tiles ranks) (range_with_len 0 (length tiles))
    ∙ sym (fill_by_all (λ k. get_or tiles k 0) tiles (length tiles) 0 refl (λ k lt. refl))

pub in_order : (tiles ranks : List ℕ) (spots : List Spot) → IsPermutation (all_spots tiles ranks) spots → IsNonDecreasingBy (λ (s : Spot). s.tile) spots → AreInOrder tiles ranks spots
in_order tiles ranks spots p rising =
    let n = length-map-range_with_len (spot_at tiles ranks) 0 (length tiles) in
    let at : (k : ℕ) (d : Spot) → k < length tiles → get_or (all_spots tiles ranks) k d ≡ spot_at tiles ranks k =
    λ k d lt. get_or-map-range_with_len (spot_at tiles ranks) 0 (length tiles) k k d lt (omega arith) in
    let is : Spot → Type 0 = λ s. (s.place < length tiles) × (s ≡ spot_at tiles ranks s.place) in
    record {
      each = All-permutation is (all_spots tiles ranks) spots p (λ k d lt. let l : k < length tiles = omega (arith, lt, n) in subst is (sym (at k d l)) (l, refl));
      all = λ place lt. Contains-permutation (all_spots tiles ranks) spots (spot_at tiles ranks place) p (place, omega (arith, lt, n), at place (spot_at tiles ranks place) lt);
      rising = rising;
      as_many = as_many_permuted (tiles_in (all_spots tiles ranks)) (tiles_in spots) (IsPermutation-map (λ (s : Spot). s.tile) (all_spots tiles ranks) spots p) ∙ ap (λ l. length (distinct l)) (tiles_of_all tiles ranks);
    }

-- before a spot all have lower tiles
abbrev pub BeginsAt : List Spot → ℕ → Type 0
BeginsAt spots i = (k : ℕ) → k < i → i < length spots → get_or (tiles_in spots) k 0 < get_or (tiles_in spots) i 0

pub begins_next : (spots : List Spot) (from to : ℕ) → IsNonDecreasingBy (λ (s : Spot). s.tile) spots → IsStretch spots from to → BeginsAt spots to
begins_next spots from to rising h k lt more =
    let a = tile_of spots k nothing (omega arith) in
    let f = tile_of spots from nothing (omega (arith, h.some)) in
    let t = tile_of spots to nothing more in
    let below = rising k to nothing (omega arith) more in
    let up = rising from to nothing (omega (arith, h.some)) more in
    let other = h.next more in
    elim (cases_lt k from) [
      | inl l ↦ let low = rising k from nothing (omega arith) (omega (arith, h.some)) in omega (arith, a, f, t, low, up, other)
      | inr l ↦ omega (arith, h.same k l lt, f, t, up, other)
    ]

-- a stretch has one more tile
pub one_more_tile : (spots : List Spot) (from to : ℕ) → BeginsAt spots from → IsStretch spots from to → length (distinct (take from (tiles_in spots))) + 1 ≤ length (distinct (take to (tiles_in spots)))
one_more_tile spots from to begins h =
    let n = length-map spots (λ (s : Spot). s.tile) in
    one_more_different (tiles_in spots) from to h.some (omega (arith, n, h.within)) (λ k lt e. let b = begins k lt (omega (arith, h.some, h.within)) in omega (arith, b, e))
