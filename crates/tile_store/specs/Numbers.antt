-- The numbers that are written into a box.
use Rattle.std.specs.Prelude.{◌≡◌, ℕ, ◌≤◌, ℤ, pos, List, length, slice_index_or, All, replicate}
use Rattle.arr_core.specs.declared.cell.FieldType.{FieldType}
use Rattle.arr_core.specs.declared.domain.Axis.{Axis}
use Rattle.arr_core.specs.Cells.{Fits}
use Rattle.arr_core.specs.Domains.{count}
use Rattle.tile_store.specs.declared.numbers.Numbers.{Numbers}
use Rattle.tile_store.specs.declared.numbers.Numbers.TheVariants.{Same, Each}

-- numbers for a box, in the range of a field's type
abbrev pub AreNumbers : FieldType → List Axis → Numbers → Type 0
AreNumbers kind area (Same n) = Fits kind n
AreNumbers kind area (Each list) = (length list.items ≡ count area) × All (Fits kind) list.items

-- the numbers of a box, one at each of its points in row-major order
abbrev pub numbers_in : List Axis → Numbers → List ℤ
numbers_in area (Same n) = replicate (count area) n
numbers_in area (Each list) = list.items

-- the number at a place, counted from 0
abbrev pub number_of : Numbers → ℕ → ℤ
number_of (Same n) place = n
number_of (Each list) place = slice_index_or list.items place (pos 0)

-- there are so many numbers at least
abbrev pub HasNumbers : Numbers → ℕ → Type 0
HasNumbers (Same n) places = Unit {0}
HasNumbers (Each list) places = places ≤ length list.items
