use Rattle.std.proofs.Common.{length}
use Rattle.std.specs.Vec.Iter.{into_iter_items}
use Rattle.plan_rewrite.proofs.hoisting.passes.+hoist_fields.Given as goal

abbrev pub decreases-hoist_fields : goal.decreases-hoist_fields
decreases-hoist_fields l = length (into_iter_items l.fields.now)
