-- The labels of the fields of a value: what each is named, and whether it is Boolean.
use Rattle.std.specs.Prelude.{List, [], ◌∷◌, map, Some, None}
use Rattle.arr_core.specs.Cells.{is_bool}
use Rattle.arr_core.specs.declared.field.Field.{Field}
use Rattle.wcps_types.specs.declared.labels.Label.{Label}
use Rattle.wcps_types.specs.declared.labels.Labels.{Labels}
use Rattle.wcps_types.specs.declared.labels.Labels.TheVariants as variants

-- the name and the kind of a field of a coverage
abbrev pub label_of : Field → Label
label_of f = record { name = Some f.name; boolean = is_bool f.kind }

-- one label for each field, in order
abbrev pub labels_in : Labels → List Label
labels_in (variants.Unnamed boolean) = record { name = None; boolean = boolean } ∷ []
labels_in (variants.Fields fields) = map label_of fields.now
labels_in (variants.Listed list) = list.items
