use Rattle.std.proofs.Common.{length}
use Rattle.std.specs.Vec.Iter.{into_iter_items}
use Rattle.plan_rewrite.proofs.hoisting.passes.+hoist_binds.Given as goal

abbrev pub decreases-hoist_binds : goal.decreases-hoist_binds
decreases-hoist_binds l = length (into_iter_items l.binds.now)
