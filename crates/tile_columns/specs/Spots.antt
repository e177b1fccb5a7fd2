-- The places of a column in the order of the tiles that they read.
use Rattle.std.specs.Prelude.{◌≡◌, ◌≢◌, ℕ, ◌<◌, ◌≤◌, ℤ, pos, List, map, length, slice_index_or}
use Rattle.std.specs.List.{All, Contains, range_with_len}
use Rattle.std.specs.List.Sorted.{IsNonDecreasingBy}
use Rattle.plan_ir.specs.Units.{distinct}
use Rattle.tile_columns.specs.declared.spots.Spot.{Spot}

-- a place with its tile and its rank, and all places with theirs
abbrev pub spot_at : List ℕ → List ℕ → ℕ → Spot
spot_at tiles ranks k = record { place = k; tile = slice_index_or tiles k 0; rank = slice_index_or ranks k 0 }

abbrev pub all_spots : List ℕ → List ℕ → List Spot
all_spots tiles ranks = map (spot_at tiles ranks) (range_with_len 0 (length tiles))

-- the tiles of spots, one for each
abbrev pub tiles_in : List Spot → List ℕ
tiles_in spots = map (λ (s : Spot). s.tile) spots

-- All places stand among the spots, in the order of their tiles, each with its tile and its rank. The spots have as
-- many different tiles as the places.
pub record AreInOrder (tiles ranks : List ℕ) (spots : List Spot) : Type 0 where
  pub each : All (λ (s : Spot). (s.place < length tiles) × (s ≡ spot_at tiles ranks s.place)) spots
  pub all : (place : ℕ) → place < length tiles → Contains spots (spot_at tiles ranks place)
  pub rising : IsNonDecreasingBy (λ (s : Spot). s.tile) spots
  pub as_many : length (distinct (tiles_in spots)) ≡ length (distinct tiles)

-- the spots from a place on, up to another one, are those of one tile, and the next one is of another
pub record IsStretch (spots : List Spot) (from to : ℕ) : Type 0 where
  pub some : from < to
  pub within : to ≤ length spots
  pub same : (k : ℕ) → from ≤ k → k < to → slice_index_or (tiles_in spots) k 0 ≡ slice_index_or (tiles_in spots) from 0
  pub next : to < length spots → slice_index_or (tiles_in spots) to 0 ≢ slice_index_or (tiles_in spots) from 0

-- the cells of ranks
abbrev pub cells_at : List ℤ → List ℕ → List ℤ
cells_at cells ranks = map (λ r. slice_index_or cells r (pos 0)) ranks

-- Cells were written at the places of spots, one at each. So where these are the wanted ones, all that are wanted there
-- stand there, and those that stood elsewhere before do still.
pub record WritesWanted (spots : List Spot) (picked before cells : List ℤ) : Type 0 where
  pub places : length cells ≡ length before
  pub written : (want : ℕ → ℤ) → picked ≡ map (λ (s : Spot). want s.place) spots
      → All (λ (s : Spot). slice_index_or cells s.place (pos 0) ≡ want s.place) spots
  pub kept : (want : ℕ → ℤ) → picked ≡ map (λ (s : Spot). want s.place) spots → (place : ℕ)
      → slice_index_or before place (pos 0) ≡ want place → slice_index_or cells place (pos 0) ≡ want place
