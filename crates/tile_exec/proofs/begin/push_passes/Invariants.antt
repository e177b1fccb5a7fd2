use Rattle.std.proofs.Common.{map, take}
use Rattle.plan_ir.specs.declared.plan.Plan.{Plan}
use Rattle.plan_ir.specs.Plans.{Choice, pass_view}
use Rattle.tile_exec.specs.Tasks.{pass_tasks}
use Rattle.tile_exec.specs.Begun.{Adds, IsChosen}
use Rattle.tile_exec.proofs.begin.push_passes.Given as goal

abbrev pub invariant-loop-k : goal.invariant-loop-k
invariant-loop-k l = (plan : Plan) (c : Choice) → IsChosen plan l.combination l.steps c → Adds plan l.fn.list l.list (pass_tasks c.coverages l.first 0 (take l.k (map pass_view l.steps.passes.items)))
