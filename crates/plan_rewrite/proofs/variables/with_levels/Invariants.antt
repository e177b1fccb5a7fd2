use Rattle.std.proofs.Common.{◌≡◌, ◌+◌, ◌++◌, length, take}
use Rattle.plan_ir.specs.Placed.{spans}
use Rattle.plan_rewrite.specs.Inlining.{levels}
use Rattle.plan_rewrite.proofs.variables.with_levels.Given as goal

abbrev pub invariant-loop-axis : goal.invariant-loop-axis
invariant-loop-axis l = record {
  items : l.list.items ≡ l.env ++ levels (length l.scope) (spans (take l._axis-index l.axes));
  level : l.level ≡ length l.scope + l._axis-index;
}
