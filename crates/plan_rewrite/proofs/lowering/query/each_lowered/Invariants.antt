use Rattle.std.proofs.Common.{◌-◌, length, map, take}
use Rattle.wcps_types.specs.TypedQueries.{trees_in}
use Rattle.plan_ir.specs.Plans.{steps_view}
use Rattle.plan_rewrite.specs.LoweredPlans.{AreLowered}
use Rattle.plan_rewrite.proofs.lowering.query.each_lowered.Given as goal

abbrev pub invariant-loop-list : goal.invariant-loop-list
invariant-loop-list l = AreLowered (take (length (map steps_view l.list.items)) (trees_in l.query)) (map steps_view l.list.items)

abbrev pub decreases-loop-list : goal.decreases-loop-list
decreases-loop-list l = length (trees_in l.query) - length l.list.items
