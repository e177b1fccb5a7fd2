-- The tasks are the passes of all combinations, and behind them their conditions and items.
use Rattle.std.proofs.Common.{[], sym, subst, arith}
use Rattle.plan_ir.specs.Plans.{plan_view}
use Rattle.tile_exec.specs.Tasks.{all_passes}
use Rattle.tile_exec.specs.Standing.{AreTasks}
use Rattle.tile_exec.specs.declared.begin.Listing.{Listing}
use Rattle.tile_exec.specs.Begun.{Lists}
use Rattle.tile_exec.proofs.begin.tasks_of_plan.Goals as goal

pub returns : goal.returns
returns c =
    let plan = c.args.plan.now in
    let tree = plan_view plan in
    let none : Listing = record { tasks = c.new.result; boxes = 0 } in
    let empty : Lists plan none [] = record { tasks = subst (λ v. AreTasks plan v []) (sym c.new.ensures.items) tt; fit = tt; boxes = omega arith } in
    c.in_ok-push_all_outs.ensures (all_passes tree.steps 0 tree.combinations) (c.in_ok-push_all_passes.ensures [] empty)
