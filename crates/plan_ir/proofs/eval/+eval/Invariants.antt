use Rattle.std.proofs.Common.{◌≡◌, ◌≤◌, ◌++◌, take}
use Rattle.std.specs.List.{flat_map}
use Rattle.arr_core.specs.Domains.{points}
use Rattle.wcps_mean.specs.Condensers.{demanded}
use Rattle.wcps_mean.specs.Feeding.{Fed}
use Rattle.plan_ir.specs.Bodies.{body_view, condition_view}
use Rattle.plan_ir.specs.Run.{run}
use Rattle.plan_ir.specs.Planned.{cells_of}
use Rattle.wcps_mean.specs.Reading.{Leaves}
use Rattle.plan_ir.proofs.eval.+eval.Given as goal

abbrev pub invariant-fold-loop-place : goal.invariant-fold-loop-place
invariant-fold-loop-place g l = record {
  leaves : Leaves g.C.Cells l.fn.cells l.cells;
  failures : g.C.Cells.failures l.cells ≡ g.C.Cells.failures l.fn.cells;
  scope : l.vars.items ≡ l.fn.vars.items;
  op : l.running.op ≡ l.f.op;
  counted : l.running.count ≤ l.place;
  fed : g.C.Cells.intact l.fn.cells → Fed l.running (flat_map (λ x. demanded
      (run (cells_of (g.C.Cells.cells l.fn.cells) l.frame.coverages.items) l.frame.registers.items (condition_view l.f.condition) (l.fn.vars.items ++ x))
      (run (cells_of (g.C.Cells.cells l.fn.cells) l.frame.coverages.items) l.frame.registers.items (body_view l.f.body) (l.fn.vars.items ++ x))) (take l.place (points l.f.domain)));
}
