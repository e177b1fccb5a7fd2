-- What is told of a coverage: its axes and its fields, each on a line.
use Rattle.std.specs.Prelude.{ℕ, List, ◌++◌, codes}
use Rattle.std.specs.Fmt.{signed_decimal}
use Rattle.std.specs.List.{flat_map}
use Rattle.arr_core.specs.Cells.{type_name}
use Rattle.arr_core.specs.declared.domain.Axis.{Axis}
use Rattle.arr_core.specs.declared.field.Field.{Field}

-- `axis x 0 99`, on a line
abbrev pub axis_line : Axis → List ℕ
axis_line a = codes "axis " ++ a.name ++ codes " " ++ signed_decimal a.lo ++ codes " " ++ signed_decimal a.hi ++ codes
    "\n"

-- `field v i16`, on a line
abbrev pub field_line : Field → List ℕ
field_line f = codes "field " ++ f.name ++ codes " " ++ type_name f.kind ++ codes "\n"

-- the lines of the axes in their order, and then those of the fields
abbrev pub description : List Axis → List Field → List ℕ
description axes fields = flat_map axis_line axes ++ flat_map field_line fields
