use Rattle.std.proofs.Common.{◌≡◌, map, take}
use Rattle.std.specs.Prelude.{All}
use Rattle.coverage_server.specs.Machine.{FitBounds, axis_of}
use Rattle.coverage_server.proofs.arguments.axes_of.Given as goal

abbrev pub invariant-loop-interval : goal.invariant-loop-interval
invariant-loop-interval l =
    All FitBounds (take l.interval-index l.intervals) × (l.axes.items ≡ map axis_of (take l.interval-index l.intervals))
