-- What a template asks, as an operation on layers.
use Rattle.std.specs.Prelude.{◌≡◌, ℕ, ℤ, pos, List, [], ◌∷◌, Option, Some, None, slice_get, true, Result}
use Rattle.arr_core.specs.declared.signature.Signature.{Signature}
use Rattle.wcps_mean.specs.declared.cell.PointFault.{PointFault}
use Rattle.wcps_mean.specs.declared.item.Item.{Item}
use Rattle.wcps_mean.specs.Cells.{fits_64}
use Rattle.map_templates.specs.Tomlin.{local, focal, zonal, array_or_overflow}
use Rattle.map_templates.specs.Expansion.{Operation, local_on, focal_on, zonal_on}

-- the cells of a store: by a coverage's name, a field's place in it, and a point
abbrev pub Cells : Type 0
Cells = List ℕ → ℕ → List ℤ → ℤ

-- the same by a coverage's place in a list
abbrev pub cells_of : Cells → Option Signature → ℕ → List ℤ → ℤ
cells_of cells None f p = pos 0
cells_of cells (Some s) f p = cells s.name f p

abbrev pub listed : Cells → List Signature → ℕ → ℕ → List ℤ → ℤ
listed cells signatures n f p = cells_of cells (slice_get signatures n) f p

-- each cell is an integer of 64 bits
abbrev pub AreIntegers : Cells → Type 0
AreIntegers cells = (name : List ℕ) (f : ℕ) (p : List ℤ) → fits_64 (cells name f p) ≡ true

-- the array that Tomlin's operation gives, or Overflow where a value leaves 64 bits somewhere
abbrev pub array_of : Cells → Operation → Result (List Item) PointFault
array_of cells (local_on op first f second g axes) =
    array_or_overflow axes (local op (cells first.coverage f) (cells second.coverage g))
array_of cells (focal_on op layer f x y radius) =
    array_or_overflow (x ∷ y ∷ []) (focal op (x ∷ y ∷ []) radius (cells layer.coverage f))
array_of cells (zonal_on op layer f zones g axes) =
    array_or_overflow axes (zonal op axes (cells layer.coverage f) (cells zones.coverage g))
