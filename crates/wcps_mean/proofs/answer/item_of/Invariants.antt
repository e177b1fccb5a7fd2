use Rattle.std.proofs.Common.{◌≡◌, [], take, map, Ok}
use Rattle.arr_core.specs.Domains.{points}
use Rattle.wcps_types.specs.Typed.{item_view}
use Rattle.wcps_types.specs.Renamed.{renamed_item}
use Rattle.wcps_mean.specs.Answer.{cells_at, joined}
use Rattle.wcps_mean.specs.Reading.{Leaves}
use Rattle.wcps_mean.proofs.answer.item_of.Given as goal

abbrev pub invariant-loop-place : goal.invariant-loop-place
invariant-loop-place g l = record {
  leaves : Leaves g.C.Cells l.fn.cells l.cells;
  failures : g.C.Cells.failures l.cells ≡ g.C.Cells.failures l.fn.cells;
  coverages : l.scope.coverages.now ≡ l.fn.coverages;
  iterators : l.scope.iterators.items ≡ [];
  stacked : l.scope.points.items ≡ [];
  base : l.scope.base ≡ 0;
  pushed : g.C.Cells.intact l.fn.cells → joined (map (cells_at (g.C.Cells.cells l.fn.cells) (renamed_item l.coverages (item_view l.item)).fields) (take l.place (points l.item.domain))) ≡ Ok l.list.items;
}
