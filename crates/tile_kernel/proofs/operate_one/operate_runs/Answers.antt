-- What was operated run by run is the operation at each place.
use Rattle.std.proofs.Common.{◌∙◌, ◌≤◌, sym, ap, arith, length, take, map, List}
use Rattle.wcps_mean.specs.declared.cell.Outcome.{Outcome}
use Rattle.wcps_mean.specs.declared.cell.Outcome.TheVariants.{Value}
use Rattle.wcps_mean.specs.Cells.{operate1}
use Rattle.std.proofs.lemmas.List.{length-map}
use Rattle.tile_kernel.specs.Repeated.{repeated}
use Rattle.tile_kernel.proofs.Repeats.{length-heads, map-repeated}
use Rattle.tile_kernel.proofs.operate_one.operate_runs.Goals as goal

pub repeat-requires : goal.repeat-requires
repeat-requires c =
    let runs = c.args.operand.now in
    let few : length runs.counts.now ≤ length runs.values.now = omega arith in
    record {
      even = sym (ap length c.operate_view.ensures ∙ length-map c.heads.result (operate1 c.args.op) ∙ ap length c.heads.ensures ∙ length-heads runs.values.now (length runs.counts.now) few);
      total = runs.total;
      few = runs.few;
    }

pub returns-then-repeat : goal.returns-then-repeat
returns-then-repeat c =
    let runs = c.args.operand.now in
    let ns = runs.counts.now in
    c.if-repeat.ensures ∙ ap (λ (l : List Outcome). repeated l ns) (c.operate_view.ensures ∙ ap (map (operate1 c.args.op)) c.heads.ensures)
    ∙ sym (map-repeated (operate1 c.args.op) (map Value (take (length ns) runs.values.now)) ns)
