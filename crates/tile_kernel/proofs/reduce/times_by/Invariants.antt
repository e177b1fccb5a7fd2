use Rattle.std.proofs.Common.{List, ℤ, ◌++◌}
use Rattle.std.specs.Prelude.{replicate}
use Rattle.wcps_mean.specs.Products.{StandsFor}
use Rattle.tile_kernel.proofs.reduce.times_by.Given as goal

abbrev pub invariant-loop-copy : goal.invariant-loop-copy
invariant-loop-copy l = (zs : List ℤ) → StandsFor l.initial.all zs → StandsFor l.all (zs ++ replicate l._copy l.x)
