use Rattle.std.proofs.Common.{◌≡◌, [], take, map}
use Rattle.plan_ir.specs.Plans.{pass_view}
use Rattle.plan_ir.specs.Planned.{registers, cells_of}
use Rattle.wcps_mean.specs.Reading.{Leaves}
use Rattle.plan_ir.proofs.items.run_passes.Given as goal

abbrev pub invariant-loop-pass : goal.invariant-loop-pass
invariant-loop-pass g l = record {
  leaves : Leaves g.C.Cells l.fn.cells l.cells;
  failures : g.C.Cells.failures l.cells ≡ g.C.Cells.failures l.fn.cells;
  coverages : l.frame.coverages ≡ l.fn.coverages;
  scope : l.vars.items ≡ [];
  done : g.C.Cells.intact l.fn.cells → l.frame.registers.items ≡ registers (cells_of (g.C.Cells.cells l.fn.cells) l.frame.coverages.items) (map pass_view (take l.pass-index l.passes));
}
