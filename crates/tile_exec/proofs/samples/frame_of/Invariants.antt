use Rattle.std.proofs.Common.{◌≡◌, map, take}
use Rattle.tile_exec.specs.declared.samples.Sample.{Sample}
use Rattle.tile_exec.specs.Known.{point_of}
use Rattle.tile_exec.proofs.samples.frame_of.Given as goal

abbrev pub invariant-loop-axis : goal.invariant-loop-axis
invariant-loop-axis l = l.frame ≡ map (λ (x : Sample). take l.axis (point_of x)) l.samples
