use Rattle.std.proofs.Common.{◌≡◌, ◌++◌, map, take, drop}
use Rattle.plan_ir.specs.Plans.{pass_view}
use Rattle.plan_rewrite.specs.InlinedPlans.{inlined_pass}
use Rattle.plan_rewrite.proofs.inlining.steps.inline_passes.Given as goal

abbrev pub invariant-loop-pass : goal.invariant-loop-pass
invariant-loop-pass l = map pass_view l.passes ≡ map inlined_pass (map pass_view (take l.pass-index l.fn.passes)) ++ map pass_view (drop l.pass-index l.fn.passes)
