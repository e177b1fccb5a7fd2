use Rattle.std.proofs.Common.{◌≡◌, take, map, Ok}
use Rattle.wcps_types.specs.Renamed.{combination_view}
use Rattle.wcps_types.specs.TypedQueries.{trees_in}
use Rattle.wcps_mean.specs.Answer.{combination_answer, joined}
use Rattle.wcps_mean.specs.Reading.{Leaves}
use Rattle.wcps_mean.proofs.answer.eval_plain.Given as goal

abbrev pub invariant-loop-combination : goal.invariant-loop-combination
invariant-loop-combination g l = record {
  leaves : Leaves g.C.Cells l.fn.cells l.cells;
  failures : g.C.Cells.failures l.cells ≡ g.C.Cells.failures l.fn.cells;
  pushed : g.C.Cells.intact l.fn.cells → joined (map (λ c. combination_answer (g.C.Cells.cells l.fn.cells) (combination_view (trees_in l.query) c)) (take l.combination-index l.query.combinations.items)) ≡ Ok l.items.items;
}
