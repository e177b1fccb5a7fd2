use Rattle.std.proofs.Common.{◌≡◌, ◌++◌, take}
use Rattle.metadata.specs.Metadata.{indexes_bytes}
use Rattle.coverage_server.proofs.closing.push_indexes.Given as goal

abbrev pub invariant-loop-field : goal.invariant-loop-field
invariant-loop-field l = l.bytes.items ≡ l.fn.bytes.items ++ indexes_bytes (take l.field-index l.fields)
