-- One more combination has given its item, if any, and the fault of the first one with a fault is the answer.
use Rattle.std.proofs.Common.{◌<◌, ◌∙◌, ap, sym, arith, length, get_or, Ok}
use Rattle.std.proofs.lemmas.Result.{err_from_is_err_and}
use Rattle.std.proofs.lemmas.Grind.{common_steps}
use Rattle.wcps_types.specs.Renamed.{combination_view}
use Rattle.wcps_types.specs.TypedQueries.{trees_in}
use Rattle.wcps_types.specs.Cells.{max_cells}
use Rattle.wcps_mean.specs.Answer.{combination_answer, joined}
use Rattle.wcps_mean.proofs.FewCells.{few_in_one}
use Rattle.wcps_mean.proofs.Scoped.{leaves-on}
use Rattle.wcps_mean.proofs.Told.{passes-from}
use Rattle.wcps_mean.proofs.Joins.{turn-more, turn-stop, turns-all, map-map, tells-on, pushed-ok}
use Rattle.wcps_mean.proofs.answer.eval_plain.Goals as goal

pub returns-in_err-push_combination-clause-answer : goal.returns-in_err-push_combination-clause-answer
returns-in_err-push_combination-clause-answer g c =
    let inv = c.loop-combination.invariant in
    let s = g.C.Cells.cells c.args.cells.now in
    let all = c.args.query.now.combinations.items in
    let view = combination_view (trees_in c.args.query.now) in
    let x = c.combination-item.result in
    let is = c.combination-item.is ∙ ap (λ l. get_or l c.loop-combination.combination-index x) c.combinations-combination-items.ensures in
    let lt : c.loop-combination.combination-index < length c.args.query.now.combinations.items = omega (arith, ap length c.combinations-combination-items.ensures) in
    let same = ap (λ s. combination_answer s (view x)) inv.leaves.cells in
    let p = err_from_is_err_and c.from_residual.result c.from_residual.ensures.1 in
    rw (p.1, p.2) (λ h. tells-on _ _ _
    (λ f e. ap joined (map-map (combination_answer s) view all)
    ∙ turn-stop (λ t. combination_answer s (view t)) all c.loop-combination.combination-index x x c.loop-combination.items.items f lt is (inv.pushed h) (sym same ∙ e))
    (c.in_err-push_combination.ensures.pushed (inv.leaves.intact h)))

pub loop-combination-preserved : goal.loop-combination-preserved
loop-combination-preserved g c =
    let inv = c.loop-combination.invariant in
    let s = g.C.Cells.cells c.args.cells.now in
    let all = c.args.query.now.combinations.items in
    let view = combination_view (trees_in c.args.query.now) in
    let x = c.combination-item.result in
    let is = c.combination-item.is ∙ ap (λ l. get_or l c.loop-combination.combination-index x) c.combinations-combination-items.ensures in
    let lt : c.loop-combination.combination-index < length c.args.query.now.combinations.items = omega (arith, ap length c.combinations-combination-items.ensures) in
    let same = ap (λ s. combination_answer s (view x)) inv.leaves.cells in
    record {
      leaves = leaves-on _ _ _ _ inv.leaves c.in_ok-push_combination.ensures.leaves;
      failures = c.in_ok-push_combination.ensures.reports ∙ inv.failures;
      pushed = λ h. let w = pushed-ok _ _ _ (c.in_ok-push_combination.ensures.pushed (inv.leaves.intact h)) in
          turn-more (λ t. combination_answer s (view t)) all c.loop-combination.combination-index x x c.loop-combination.items.items w.0 lt is (inv.pushed h) (sym same ∙ w.1) ∙ ap Ok (sym w.2);
    }

pub returns-clause-answer : goal.returns-clause-answer
returns-clause-answer g c h =
    let inv = c.loop-combination.invariant in
    let s = g.C.Cells.cells c.args.cells.now in
    let all = c.args.query.now.combinations.items in
    let view = combination_view (trees_in c.args.query.now) in
    ap joined (map-map (combination_answer s) view all)
    ∙ sym (turns-all (λ t. combination_answer s (view t)) all c.loop-combination.combination-index (omega (arith, ap length c.combinations-combination-items.ensures)))
    ∙ inv.pushed h

pub returns-in_err-push_combination-clause-reports : goal.returns-in_err-push_combination-clause-reports
returns-in_err-push_combination-clause-reports g c =
    let inv = c.loop-combination.invariant in
    let p = err_from_is_err_and c.from_residual.result c.from_residual.ensures.1 in
    rw (p.1, p.2) (passes-from _ _ _ _ inv.leaves.intact inv.failures c.in_err-push_combination.ensures.reports)

pub push_combination-requires : goal.push_combination-requires
push_combination-requires g c =
    let all = c.args.query.now.combinations.items in
    let view = combination_view (trees_in c.args.query.now) in
    let x = c.combination-item.result in
    let is = c.combination-item.is ∙ ap (λ l. get_or l c.loop-combination.combination-index x) c.combinations-combination-items.ensures in
    let lt : c.loop-combination.combination-index < length all = omega (arith, ap length c.combinations-combination-items.ensures) in
    record { few_cells = few_in_one view all c.loop-combination.combination-index x max_cells lt is c.args.query.now.few_cells }

pub loop-combination-init : goal.loop-combination-init
loop-combination-init g c = grind (arith, common_steps)

pub returns-clause-leaves : goal.returns-clause-leaves
returns-clause-leaves g c = grind (arith, common_steps)

pub returns-clause-reports : goal.returns-clause-reports
returns-clause-reports g c = grind (arith, common_steps)
