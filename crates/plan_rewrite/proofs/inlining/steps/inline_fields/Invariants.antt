use Rattle.std.proofs.Common.{◌≡◌, ◌++◌, map, take, drop}
use Rattle.plan_ir.specs.Plans.{field_view}
use Rattle.plan_rewrite.specs.InlinedPlans.{inlined_field}
use Rattle.plan_rewrite.proofs.inlining.steps.inline_fields.Given as goal

abbrev pub invariant-loop-field : goal.invariant-loop-field
invariant-loop-field l = map field_view l.fields ≡ map (inlined_field (record { env = l.env; scope = l.scope })) (map field_view (take l.field-index l.fn.fields)) ++ map field_view (drop l.field-index l.fn.fields)
