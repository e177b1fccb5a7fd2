use Rattle.std.proofs.Common.{length}
use Rattle.plan_ir.proofs.items.+push_bound.Given as goal

abbrev pub decreases-push_bound : goal.decreases-push_bound
decreases-push_bound g l = length l.binds.now
