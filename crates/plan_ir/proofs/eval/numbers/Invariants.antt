use Rattle.std.proofs.Common.{◌≡◌, take}
use Rattle.plan_ir.specs.Run.{numbers_at}
use Rattle.plan_ir.proofs.eval.numbers.Given as goal

abbrev pub invariant-loop-index : goal.invariant-loop-index
invariant-loop-index l = l.point.items ≡ numbers_at l.vars (take l.index-index l.indexes)
