-- Coverages of a store that were copied by their names.
use Rattle.std.specs.Prelude.{◌≡◌, ℕ, List, [], ◌∷◌, ◌++◌, map, All}
use Rattle.raster_store.specs.declared.held.Held.{Held}
use Rattle.raster_store.specs.Holding.{AreApart, NoneNamed}
use Rattle.raster_store.specs.Fields.{IsNamed}
use Rattle.raster_store.specs.Snapshots.{distinct}

-- it is the coverage of a store that has its name
pub record IsCopyOf (held : List Held) (h : Held) : Type 0 where
  pub from : Held
  pub named : IsNamed h.signature.name held from
  pub version : h.version ≡ from.version
  pub signature : h.signature ≡ from.signature
  pub fields : h.fields.items ≡ from.fields.items

-- the names of coverages
abbrev pub names_of : List Held → List (List ℕ)
names_of held = map (λ (h : Held). h.signature.name) held

-- each is the coverage of a store with its name, each of these names has one, none has two, and no other name has one
pub record AreCopiesOf (held : List Held) (names : List (List ℕ)) (copies : List Held) : Type 0 where
  pub named : All (λ (n : List ℕ). NoneNamed n copies → ⊥) names
  pub from : All (IsCopyOf held) copies
  pub apart : AreApart copies
  pub once : names_of copies ≡ distinct names

-- one more name has its coverage
abbrev pub AddsCopy : List Held → List ℕ → List Held → List Held → Type 0
AddsCopy held name old new =
    (names : List (List ℕ)) → AreCopiesOf held names old → AreCopiesOf held (names ++ name ∷ []) new
