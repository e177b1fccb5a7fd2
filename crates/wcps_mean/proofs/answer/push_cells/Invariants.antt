use Rattle.std.proofs.Common.{◌≡◌, [], ◌∷◌, take, map}
use Rattle.wcps_types.specs.Typed.{FieldTree}
use Rattle.wcps_mean.specs.Meaning.{val}
use Rattle.wcps_mean.specs.Answer.{joined, given, cell_of}
use Rattle.wcps_mean.specs.Errors.{PushesCells}
use Rattle.wcps_mean.specs.Reading.{Leaves}
use Rattle.wcps_mean.specs.Scopes.{IsSame, point_in, item_over}
use Rattle.wcps_mean.proofs.answer.push_cells.Given as goal

abbrev pub invariant-loop-field : goal.invariant-loop-field
invariant-loop-field g l = record {
  leaves : Leaves g.C.Cells l.fn.cells l.cells;
  failures : g.C.Cells.failures l.cells ≡ g.C.Cells.failures l.fn.cells;
  scope : IsSame l.fn.scope l.scope;
  pushed : g.C.Cells.intact l.fn.cells → PushesCells (joined (map (λ (f : FieldTree). given (λ z. cell_of f.boolean z ∷ []) (val (g.C.Cells.cells l.fn.cells) f.tree [] (point_in l.fn.scope))) (take l.field (item_over l.fn.scope.coverages.now l.item).fields))) l.fn.list.items l.list.items;
}
