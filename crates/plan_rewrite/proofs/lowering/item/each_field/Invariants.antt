use Rattle.std.proofs.Common.{◌≡◌, ◌++◌, drop, map}
use Rattle.wcps_types.specs.Typed.{fields_view}
use Rattle.plan_ir.specs.Plans.{field_view}
use Rattle.plan_rewrite.specs.Lowering.{setting_of}
use Rattle.plan_rewrite.specs.LoweredItems.{lowered_field}
use Rattle.plan_rewrite.proofs.lowering.item.each_field.Given as goal

abbrev pub invariant-loop-place : goal.invariant-loop-place
invariant-loop-place l =
    map field_view l.list.items ++ map (lowered_field (setting_of l.context)) (fields_view l.node l.place (drop l.place l.booleans))
    ≡ map (lowered_field (setting_of l.context)) (fields_view l.node 0 l.booleans)
