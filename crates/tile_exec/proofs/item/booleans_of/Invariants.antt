use Rattle.std.proofs.Common.{◌≡◌, map, take}
use Rattle.plan_ir.specs.declared.plan.Field.{Field}
use Rattle.tile_exec.proofs.item.booleans_of.Given as goal

abbrev pub invariant-loop-field : goal.invariant-loop-field
invariant-loop-field l = l.booleans.items ≡ map (λ (f : Field). f.boolean) (take l.field-index l.fields)
