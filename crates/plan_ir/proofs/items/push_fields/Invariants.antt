use Rattle.std.proofs.Common.{◌≡◌, take, map}
use Rattle.wcps_mean.specs.Answer.{joined}
use Rattle.wcps_mean.specs.Errors.{PushesCells}
use Rattle.plan_ir.specs.declared.plan.Field.{Field}
use Rattle.plan_ir.specs.Plans.{field_view}
use Rattle.plan_ir.specs.Planned.{field_cell, cells_of}
use Rattle.wcps_mean.specs.Reading.{Leaves}
use Rattle.plan_ir.proofs.items.push_fields.Given as goal

abbrev pub invariant-loop-field : goal.invariant-loop-field
invariant-loop-field g l = record {
  leaves : Leaves g.C.Cells l.fn.cells l.cells;
  failures : g.C.Cells.failures l.cells ≡ g.C.Cells.failures l.fn.cells;
  scope : l.vars.items ≡ l.fn.vars.items;
  pushed : g.C.Cells.intact l.fn.cells → PushesCells (joined (map (λ (f : Field). field_cell (cells_of (g.C.Cells.cells l.fn.cells) l.frame.coverages.items) l.frame.registers.items l.fn.vars.items (field_view f)) (take l.field-index l.fields))) l.fn.list.items l.list.items;
}
