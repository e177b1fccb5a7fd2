use Rattle.std.proofs.Common.{◌≡◌, ◌++◌, take}
use Rattle.std.specs.Prelude.{string_bytes}
use Rattle.std.specs.List.{flat_map}
use Rattle.coverage_server.specs.Describing.{axis_line}
use Rattle.coverage_server.proofs.describing.push_axes.Given as goal

abbrev pub invariant-loop-axis : goal.invariant-loop-axis
invariant-loop-axis l = string_bytes l.text ≡ string_bytes l.initial.text ++ flat_map axis_line (take l.axis-index l.axes)
