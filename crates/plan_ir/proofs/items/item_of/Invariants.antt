use Rattle.std.proofs.Common.{◌≡◌, [], take, map, Ok}
use Rattle.arr_core.specs.Domains.{points}
use Rattle.wcps_mean.specs.Answer.{joined}
use Rattle.plan_ir.specs.Plans.{item_view}
use Rattle.plan_ir.specs.Planned.{cells_at, cells_of}
use Rattle.wcps_mean.specs.Reading.{Leaves}
use Rattle.plan_ir.proofs.items.item_of.Given as goal

abbrev pub invariant-loop-place : goal.invariant-loop-place
invariant-loop-place g l = record {
  leaves : Leaves g.C.Cells l.fn.cells l.cells;
  failures : g.C.Cells.failures l.cells ≡ g.C.Cells.failures l.fn.cells;
  scope : l.vars.items ≡ [];
  pushed : g.C.Cells.intact l.fn.cells → joined (map (cells_at (cells_of (g.C.Cells.cells l.fn.cells) l.frame.coverages.items) l.frame.registers.items (item_view l.item)) (take l.place (points l.item.domain))) ≡ Ok l.list.items;
}
