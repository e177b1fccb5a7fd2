use Rattle.std.proofs.Common.{◌≡◌, ◌++◌, map, take, drop}
use Rattle.plan_ir.specs.Plans.{steps_view}
use Rattle.plan_rewrite.specs.InlinedPlans.{inlined_steps}
use Rattle.plan_rewrite.proofs.inlining.steps.inline_all.Given as goal

abbrev pub invariant-loop-steps : goal.invariant-loop-steps
invariant-loop-steps l = map steps_view l.all ≡ map inlined_steps (map steps_view (take l.steps-index l.fn.all)) ++ map steps_view (drop l.steps-index l.fn.all)
