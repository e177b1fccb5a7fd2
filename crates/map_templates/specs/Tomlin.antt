-- Tomlin's operations as sets of locations. (C. D. Tomlin, Geographic Information Systems and Cartographic Modeling,
-- 1990.)
use Rattle.std.specs.Prelude.{ℕ, ℤ, pos, ◌+ℤ◌, ◌-ℤ◌, ◌*ℤ◌, List, [], ◌∷◌, map, Bool, true, false, ◌&&◌, nat_le, cond, Result, Ok, Err}
use Rattle.std.specs.List.{filter, list_all}
use Rattle.arr_core.specs.declared.cell.Cell.TheVariants as cells
use Rattle.arr_core.specs.declared.domain.Axis.{Axis}
use Rattle.arr_core.specs.Domains.{gap, points}
use Rattle.wcps_mean.specs.declared.cell.PointFault.{PointFault}
use Rattle.wcps_mean.specs.declared.cell.PointFault.TheVariants.{Overflow}
use Rattle.wcps_mean.specs.declared.item.Item.{Item}
use Rattle.wcps_mean.specs.Cells.{fits_64, int_eq}
use Rattle.wcps_mean.specs.Condensers.{total, larger, smaller, greatest, least}
use Rattle.wcps_mean.specs.Answer.{line_of}
use Rattle.map_templates.specs.declared.template.LocalOperation.{LocalOperation}
use Rattle.map_templates.specs.declared.template.LocalOperation.TheVariants as locals
use Rattle.map_templates.specs.declared.template.Summary.{Summary}
use Rattle.map_templates.specs.declared.template.Summary.TheVariants as summaries

-- a layer: its value at each location
abbrev pub Raster : Type 0
Raster = List ℤ → ℤ

-- local: of the two values at the location
abbrev pub local : LocalOperation → Raster → Raster → Raster
local locals.Sum a b p = a p +ℤ b p
local locals.Difference a b p = a p -ℤ b p
local locals.Product a b p = a p *ℤ b p
local locals.Maximum a b p = larger (a p) (b p)
local locals.Minimum a b p = smaller (a p) (b p)

-- of the values at a set of locations: their sum, the greatest or the least; each set here has a location
abbrev pub summary : Summary → List ℤ → ℤ
summary summaries.Sum zs = total zs
summary summaries.Maximum [] = pos 0
summary summaries.Maximum (z ∷ zs) = greatest z zs
summary summaries.Minimum [] = pos 0
summary summaries.Minimum (z ∷ zs) = least z zs

-- two locations are at most so far apart on each axis
abbrev pub are_near : ℕ → List ℤ → List ℤ → Bool
are_near r [] [] = true
are_near r [] (y ∷ q) = false
are_near r (x ∷ p) [] = false
are_near r (x ∷ p) (y ∷ q) = nat_le (gap x y) r && are_near r p q

-- focal: over the locations of the domain that are near the location
abbrev pub focal : Summary → List Axis → ℕ → Raster → Raster
focal op axes r a p = summary op (map a (filter (are_near r p) (points axes)))

-- zonal: over the locations of the domain in the same zone, those with the same zone value
abbrev pub zonal : Summary → List Axis → Raster → Raster → Raster
zonal op axes a z p = summary op (map a (filter (λ q. int_eq (z q) (z p)) (points axes)))

-- the array of integers on a domain, as the item of an answer
abbrev pub array : List Axis → Raster → Item
array axes a = record { line = line_of axes; fields = 1; cells = map (λ p. cells.Int (a p)) (points axes) }

-- that array, or Overflow where a value leaves 64 bits somewhere
abbrev pub array_or_overflow : List Axis → Raster → Result (List Item) PointFault
array_or_overflow axes a = cond (list_all (λ p. fits_64 (a p)) (points axes)) (Ok (array axes a ∷ [])) (Err Overflow)
