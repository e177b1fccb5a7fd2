use Rattle.std.proofs.Common.{length}
use Rattle.std.specs.Vec.Iter.{into_iter_items}
use Rattle.plan_rewrite.proofs.inlining.steps.+inline_binds.Given as goal

abbrev pub decreases-inline_binds : goal.decreases-inline_binds
decreases-inline_binds l = length (into_iter_items l.binds.now)
