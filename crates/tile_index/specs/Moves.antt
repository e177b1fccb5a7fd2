-- How the pairs of two lists, one after the other, are parted at a tile.
use Rattle.std.specs.Prelude.{◌≡◌, ◌≢◌, ℕ, suc, ◌<◌, ◌≤◌, ◌^◌, List, [], ◌∷◌, ◌++◌, reverse}
use Rattle.tile_index.specs.declared.entry.Entry.{Entry}
use Rattle.tile_index.specs.Index.{found_at}

-- the tile numbers rise, from one number on and up to another
abbrev pub IsBetween : {X : Type 0} → ℕ → List (ℕ × X) → ℕ → Type 0
IsBetween low [] high = low ≤ high
IsBetween low (x ∷ xs) high = (low ≤ x.0) × IsBetween (suc x.0) xs high

-- the second list has only tiles after this one, and after those of the first
pub record AreApart (tile : ℕ) (front back : List (ℕ × Entry)) : Type 0 where
  pub bound : ℕ
  pub above : tile < bound
  pub low : IsBetween 0 front bound
  pub high : IsBetween bound back (2 ^ 32)

-- the first list has the tiles before this one, the second those after it, and both what the whole had there
pub record ArePartedAt (tile : ℕ) (whole front back : List (ℕ × Entry)) : Type 0 where
  pub before : IsBetween 0 front tile
  pub after : IsBetween (suc tile) back (2 ^ 32)
  pub same : (t : ℕ) → t ≢ tile → found_at t (front ++ back) ≡ found_at t whole

-- the entries after a tile were moved from the end of a list to the end of another, and that of the tile was dropped
abbrev pub MovesAfter : ℕ → List (ℕ × Entry) → List (ℕ × Entry) → List (ℕ × Entry) → List (ℕ × Entry) → Type 0
MovesAfter tile old moved new moved' = ArePartedAt tile (old ++ reverse moved) new (reverse moved')
