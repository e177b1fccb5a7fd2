use Rattle.std.proofs.Common.{length}
use Rattle.std.specs.Vec.Iter.{into_iter_items}
use Rattle.plan_rewrite.proofs.hoisting.passes.+hoist_passes.Given as goal

abbrev pub decreases-hoist_passes : goal.decreases-hoist_passes
decreases-hoist_passes l = length (into_iter_items l.old.now)
