use Rattle.std.proofs.Common.{◌≡◌, ◌++◌, take, flat_map}
use Rattle.catalogue.specs.Bytes.{field_bytes}
use Rattle.catalogue.proofs.writing.push_fields.Given as goal

abbrev pub invariant-loop-field : goal.invariant-loop-field
invariant-loop-field l = l.bytes.items ≡ l.initial.bytes.items ++ flat_map field_bytes (take l.field-index l.fields)
