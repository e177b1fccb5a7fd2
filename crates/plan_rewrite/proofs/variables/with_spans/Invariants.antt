use Rattle.std.proofs.Common.{◌≡◌, ◌++◌, take}
use Rattle.plan_ir.specs.Placed.{spans}
use Rattle.plan_rewrite.proofs.variables.with_spans.Given as goal

abbrev pub invariant-loop-axis : goal.invariant-loop-axis
invariant-loop-axis l = l.list.items ≡ l.scope ++ spans (take l.axis-index l.axes)
