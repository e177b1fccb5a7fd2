use Rattle.std.proofs.Common.{◌≡◌, ◌++◌, map, take, drop}
use Rattle.plan_ir.specs.Variables.{index_without}
use Rattle.plan_rewrite.proofs.hoisting.closed.shift_indexes.Given as goal

abbrev pub invariant-loop-index : goal.invariant-loop-index
invariant-loop-index l = l.indexes ≡ map (index_without l.n) (take l.index-index l.fn.indexes) ++ drop l.index-index l.fn.indexes
