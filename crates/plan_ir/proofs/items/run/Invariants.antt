use Rattle.std.proofs.Common.{◌≡◌, take, map, Ok}
use Rattle.std.specs.Prelude.{slice_get, option_map}
use Rattle.wcps_mean.specs.Answer.{joined}
use Rattle.plan_ir.specs.declared.plan.Combination.{Combination}
use Rattle.plan_ir.specs.Plans.{steps_view}
use Rattle.plan_ir.specs.Planned.{choice_planned}
use Rattle.wcps_mean.specs.Reading.{Leaves}
use Rattle.plan_ir.proofs.items.run.Given as goal

abbrev pub invariant-loop-combination : goal.invariant-loop-combination
invariant-loop-combination g l = record {
  leaves : Leaves g.C.Cells l.fn.cells l.cells;
  failures : g.C.Cells.failures l.cells ≡ g.C.Cells.failures l.fn.cells;
  pushed : g.C.Cells.intact l.fn.cells → joined (map (λ (c : Combination). choice_planned (g.C.Cells.cells l.fn.cells) c.coverages.items (option_map steps_view (slice_get l.plan.steps.items c.steps))) (take l.combination-index l.plan.combinations.items)) ≡ Ok l.items.items;
}
