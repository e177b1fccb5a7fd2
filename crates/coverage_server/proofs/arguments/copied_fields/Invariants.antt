use Rattle.std.proofs.Common.{◌≡◌, take}
use Rattle.coverage_server.proofs.arguments.copied_fields.Given as goal

abbrev pub invariant-loop-field : goal.invariant-loop-field
invariant-loop-field l = l.list.items ≡ take l.field-index l.fields
