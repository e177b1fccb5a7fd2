use Rattle.tile_exec.specs.Known.{AddsPoints}
use Rattle.tile_exec.proofs.samples.add_points.Given as goal

abbrev pub invariant-loop-place : goal.invariant-loop-place
invariant-loop-place l = AddsPoints l.part l.keys l.fn.samples.items l.samples.items
