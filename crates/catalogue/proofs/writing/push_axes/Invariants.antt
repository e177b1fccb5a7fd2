use Rattle.std.proofs.Common.{◌≡◌, ◌++◌, take, flat_map}
use Rattle.catalogue.specs.Bytes.{axis_bytes}
use Rattle.catalogue.proofs.writing.push_axes.Given as goal

abbrev pub invariant-loop-axis : goal.invariant-loop-axis
invariant-loop-axis l = l.bytes.items ≡ l.initial.bytes.items ++ flat_map axis_bytes (take l.axis-index l.axes)
