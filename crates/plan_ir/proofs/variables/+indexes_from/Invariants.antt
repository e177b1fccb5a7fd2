use Rattle.std.proofs.Common.{length}
use Rattle.plan_ir.proofs.variables.+indexes_from.Given as goal

abbrev pub decreases-indexes_from : goal.decreases-indexes_from
decreases-indexes_from l = length l.indexes.now
