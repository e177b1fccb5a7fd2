use Rattle.std.proofs.Common.{length}
use Rattle.plan_ir.proofs.variables.+indexes_below.Given as goal

abbrev pub decreases-indexes_below : goal.decreases-indexes_below
decreases-indexes_below l = length l.indexes.now
