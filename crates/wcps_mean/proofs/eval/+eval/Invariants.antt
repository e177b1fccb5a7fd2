use Rattle.std.proofs.Common.{◌≡◌, ◌≤◌, ◌++◌, [], length, map, take}
use Rattle.std.specs.List.{flat_map}
use Rattle.arr_core.specs.Domains.{points}
use Rattle.wcps_types.specs.Typed.{only_tree}
use Rattle.wcps_types.specs.Renamed.{renamed}
use Rattle.wcps_mean.specs.Condensers.{demanded}
use Rattle.wcps_mean.specs.Meaning.{val}
use Rattle.wcps_mean.specs.Feeding.{Fed}
use Rattle.wcps_mean.specs.Reading.{Leaves}
use Rattle.wcps_mean.specs.Scopes.{IsSame}
use Rattle.wcps_mean.proofs.eval.+eval.Given as goal

abbrev pub invariant-condense-loop-place : goal.invariant-condense-loop-place
invariant-condense-loop-place g l = record {
  leaves : Leaves g.C.Cells l.fn.cells l.cells;
  failures : g.C.Cells.failures l.cells ≡ g.C.Cells.failures l.fn.cells;
  scope : IsSame l.fn.scope l.scope;
  op : l.running.op ≡ l.fn.op;
  counted : l.running.count ≡ l.place;
  fed : g.C.Cells.intact l.fn.cells → Fed l.running (take l.place (map (λ x. val (g.C.Cells.cells l.fn.cells) (renamed l.fn.scope.coverages.now (only_tree l.e)) (l.fn.scope.iterators.items ++ x) []) (points l.domain)));
}

abbrev pub invariant-reduce-loop-place : goal.invariant-reduce-loop-place
invariant-reduce-loop-place g l = record {
  leaves : Leaves g.C.Cells l.fn.cells l.cells;
  failures : g.C.Cells.failures l.cells ≡ g.C.Cells.failures l.fn.cells;
  coverages : l.scope.coverages.now ≡ l.fn.scope.coverages.now;
  iterators : l.scope.iterators.items ≡ l.fn.scope.iterators.items;
  stacked : l.scope.points.items ≡ l.fn.scope.points.items;
  base : l.scope.base ≡ length l.fn.scope.points.items;
  op : l.running.op ≡ l.fn.op;
  counted : l.running.count ≡ l.place;
  fed : g.C.Cells.intact l.fn.cells → Fed l.running (take l.place (map (λ x. val (g.C.Cells.cells l.fn.cells) (renamed l.fn.scope.coverages.now (only_tree l.e)) l.fn.scope.iterators.items x) (points l.domain)));
}

abbrev pub invariant-eval-loop-place : goal.invariant-eval-loop-place
invariant-eval-loop-place g l = record {
  leaves : Leaves g.C.Cells l.fn.cells l.cells;
  failures : g.C.Cells.failures l.cells ≡ g.C.Cells.failures l.fn.cells;
  scope : IsSame l.fn.scope l.scope;
  op : l.running.op ≡ l.initial.running.op;
  counted : l.running.count ≤ l.place;
  fed : g.C.Cells.intact l.fn.cells → Fed l.running (flat_map (λ x. demanded (val (g.C.Cells.cells l.fn.cells) (renamed l.fn.scope.coverages.now (only_tree l.condition.value)) (l.fn.scope.iterators.items ++ x) []) (val (g.C.Cells.cells l.fn.cells) (renamed l.fn.scope.coverages.now (only_tree l.body.value)) (l.fn.scope.iterators.items ++ x) [])) (take l.place (points l.domain.value)));
}
