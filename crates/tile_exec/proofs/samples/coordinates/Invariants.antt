use Rattle.std.proofs.Common.{◌≡◌, pos, map, take, get_or}
use Rattle.tile_exec.specs.declared.samples.Sample.{Sample}
use Rattle.tile_exec.proofs.samples.coordinates.Given as goal

abbrev pub invariant-loop-sample : goal.invariant-loop-sample
invariant-loop-sample l = l.numbers.items ≡ map (λ (x : Sample). get_or x.point.items l.axis (pos 0)) (take l.sample-index l.samples)
