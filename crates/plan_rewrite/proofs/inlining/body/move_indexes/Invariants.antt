use Rattle.std.proofs.Common.{◌≡◌, ◌++◌, map, take, drop}
use Rattle.plan_rewrite.specs.Inlining.{index_for}
use Rattle.plan_rewrite.proofs.inlining.body.move_indexes.Given as goal

abbrev pub invariant-loop-index : goal.invariant-loop-index
invariant-loop-index l = l.indexes ≡ map (index_for l.env) (take l.index-index l.fn.indexes) ++ drop l.index-index l.fn.indexes
