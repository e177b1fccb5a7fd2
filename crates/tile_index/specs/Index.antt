-- An index: a finite map from tile numbers to entries, as the list of its pairs in rising order.
use Rattle.std.specs.Prelude.{◌≡◌, ℕ, ◌<◌, ◌^◌, List, [], ◌∷◌, length, get_or, All, AllPairs, Option, Some, None, IsSome, ◌==◌, if◌then◌else◌, unwrap_or}
use Rattle.tile_index.specs.declared.entry.Entry.{Entry}
use Rattle.tile_index.specs.Entries.{IsEntry}

-- what a list of tiles, each with something, has at a tile
abbrev pub found_at : {X : Type 0} → ℕ → List (ℕ × X) → Option X
found_at tile [] = None
found_at tile (x ∷ xs) = if tile == x.0 then Some x.1 else found_at tile xs

-- the tile numbers rise
abbrev pub IsRising : {X : Type 0} → List (ℕ × X) → Type 0
IsRising {X = X} xs = AllPairs (λ (x y : ℕ × X). x.0 < y.0) xs

-- the tile numbers have 32 bits
abbrev pub AreSmall : {X : Type 0} → List (ℕ × X) → Type 0
AreSmall {X = X} xs = All (λ (x : ℕ × X). x.0 < 2 ^ 32) xs

-- a tile whose number has 32 bits, and its entry
abbrev pub IsPair : ℕ × Entry → Type 0
IsPair x = (x.0 < 2 ^ 32) × IsEntry x.1

-- such pairs, in rising order
pub record ArePairs (pairs : List (ℕ × Entry)) : Type 0 where
  pub rising : IsRising pairs
  pub each : All IsPair pairs

-- so many of them
abbrev pub AreSoMany : ℕ → List (ℕ × Entry) → Type 0
AreSoMany count pairs = (length pairs ≡ count) × ArePairs pairs

-- the pairs of an index: fewer than 2^32 of them
pub record IsIndex (index : List (ℕ × Entry)) : Type 0 where
  pub pairs : ArePairs index
  pub few : length index < 2 ^ 32

-- what changes give are entries
abbrev pub AreEntries : List (ℕ × Option Entry) → Type 0
AreEntries changes = (tile : ℕ) (entry : Entry) → found_at tile changes ≡ Some (Some entry) → IsEntry entry

-- what a tile has after changes: what they give it, an entry or none, and what it had where they
-- do not list it
abbrev pub changed_at : ℕ → List (ℕ × Option Entry) → List (ℕ × Entry) → Option Entry
changed_at tile changes index = unwrap_or (found_at tile changes) (found_at tile index)

-- changes of an index, in rising order; after them a tile whose number has 32 bits has no entry
pub record AreChanges (changes : List (ℕ × Option Entry)) (index : List (ℕ × Entry)) : Type 0 where
  pub rising : IsRising changes
  pub small : AreSmall changes
  pub entries : AreEntries changes
  pub room : (tile : ℕ) × (tile < 2 ^ 32) × (changed_at tile changes index ≡ None)

-- the pair of a tile stands at this place
abbrev pub IsPlaceOf : ℕ → List (ℕ × Entry) → ℕ → Type 0
IsPlaceOf tile index place = (place < length index) × ((d : ℕ × Entry) → (get_or index place d).0 ≡ tile)

-- changes that give listed tiles other entries: none is added, and none is taken away
abbrev pub AreExchanges : List (ℕ × Option Entry) → List (ℕ × Entry) → Type 0
AreExchanges changes index = All (λ (x : ℕ × Option Entry). IsSome x.1 × IsSome (found_at x.0 index)) changes
