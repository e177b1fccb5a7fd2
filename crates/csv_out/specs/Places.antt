-- Where a line stands after so many cells of an item.
use Rattle.std.specs.Prelude.{◌≡◌, ℕ, ◌/◌, ◌%◌}
use Rattle.csv_out.specs.declared.cells.Shape.{Shape}
use Rattle.csv_out.specs.declared.cells.Place.{Place}

-- so many fields of a point, and so many points of a line, stand before
pub record IsPlace (shape : Shape) (written : ℕ) (place : Place) : Type 0 where
  pub field : place.field ≡ written % shape.fields
  pub point : place.point ≡ written / shape.fields % shape.line
