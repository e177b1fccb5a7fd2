use Rattle.std.proofs.Common.{◌≡◌, map, take}
use Rattle.wcps_types.specs.Labels.{label_of}
use Rattle.wcps_types.specs.Queries.{label_boolean}
use Rattle.wcps_types.proofs.item.field_booleans.Given as goal

abbrev pub invariant-loop-field : goal.invariant-loop-field
invariant-loop-field l = l.booleans.items ≡ map label_boolean (map label_of (take l.field-index l.fields))
