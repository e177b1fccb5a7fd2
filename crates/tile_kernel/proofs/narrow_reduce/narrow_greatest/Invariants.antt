use Rattle.std.proofs.Common.{◌≡◌, Some, take}
use Rattle.wcps_mean.specs.Best.{greatest_of}
use Rattle.tile_kernel.proofs.narrow_reduce.narrow_greatest.Given as goal

abbrev pub invariant-loop-place : goal.invariant-loop-place
invariant-loop-place l = greatest_of (take l.place l.values) ≡ Some l.best
