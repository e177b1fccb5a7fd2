-- One more combination has given its item, if any, and the fault of the first one with a fault is the plan's.
use Rattle.std.proofs.Common.{◌<◌, ◌∙◌, ap, sym, arith, List, length, get_or, Result, Ok}
use Rattle.std.specs.Prelude.{slice_get, option_map}
use Rattle.std.proofs.lemmas.Result.{err_from_is_err_and}
use Rattle.wcps_mean.specs.declared.cell.PointFault.{PointFault}
use Rattle.wcps_mean.specs.declared.item.Item.{Item}
use Rattle.wcps_mean.specs.Answer.{joined}
use Rattle.wcps_mean.proofs.Scoped.{leaves-on}
use Rattle.wcps_mean.proofs.Told.{passes-from}
use Rattle.wcps_mean.proofs.Joins.{turn-more, turn-stop, turns-all, tells-on, pushed-ok}
use Rattle.plan_ir.specs.declared.plan.Combination.{Combination}
use Rattle.plan_ir.specs.Plans.{steps_view}
use Rattle.plan_ir.specs.Planned.{choice_planned}
use Rattle.plan_ir.proofs.Parts.{each-choice}
use Rattle.plan_ir.proofs.items.run.Goals as goal

pub returns-in_err-push_combination-clause-answer : goal.returns-in_err-push_combination-clause-answer
returns-in_err-push_combination-clause-answer g c =
    let inv = c.loop-combination.invariant in
    let s = g.C.Cells.cells c.args.cells.now in
    let steps = c.args.plan.now.steps.items in
    let all = c.args.plan.now.combinations.items in
    let x = c.combination-item.result in
    let is = c.combination-item.is ∙ ap (λ l. get_or l c.loop-combination.combination-index x) c.deref-combination-items.ensures.value in
    let lt : c.loop-combination.combination-index < length all = omega (arith, ap length c.deref-combination-items.ensures.value) in
    let f : Combination → Result (List Item) PointFault = λ t. choice_planned s t.coverages.items (option_map steps_view (slice_get steps t.steps)) in
    let same = ap (λ s. choice_planned s x.coverages.items (option_map steps_view (slice_get c.deref.result.now x.steps))) inv.leaves.cells
    ∙ ap (λ l. choice_planned s x.coverages.items (option_map steps_view (slice_get l x.steps))) c.deref.ensures.value in
    let p = err_from_is_err_and c.from_residual.result c.from_residual.ensures.1 in
    rw (p.1, p.2) (λ h. tells-on _ _ _
    (λ e h'. ap joined (each-choice s steps all)
    ∙ turn-stop f all c.loop-combination.combination-index x x c.loop-combination.items.items e lt is (inv.pushed h) (sym same ∙ h'))
    (c.in_err-push_combination.ensures.pushed (inv.leaves.intact h)))

pub loop-combination-preserved : goal.loop-combination-preserved
loop-combination-preserved g c =
    let inv = c.loop-combination.invariant in
    let s = g.C.Cells.cells c.args.cells.now in
    let steps = c.args.plan.now.steps.items in
    let all = c.args.plan.now.combinations.items in
    let x = c.combination-item.result in
    let is = c.combination-item.is ∙ ap (λ l. get_or l c.loop-combination.combination-index x) c.deref-combination-items.ensures.value in
    let lt : c.loop-combination.combination-index < length all = omega (arith, ap length c.deref-combination-items.ensures.value) in
    let f : Combination → Result (List Item) PointFault = λ t. choice_planned s t.coverages.items (option_map steps_view (slice_get steps t.steps)) in
    let same = ap (λ s. choice_planned s x.coverages.items (option_map steps_view (slice_get c.deref.result.now x.steps))) inv.leaves.cells
    ∙ ap (λ l. choice_planned s x.coverages.items (option_map steps_view (slice_get l x.steps))) c.deref.ensures.value in
    record {
      leaves = leaves-on _ _ _ _ inv.leaves c.in_ok-push_combination.ensures.leaves;
      failures = c.in_ok-push_combination.ensures.reports ∙ inv.failures;
      pushed = λ h. let w = pushed-ok _ _ _ (c.in_ok-push_combination.ensures.pushed (inv.leaves.intact h)) in
          turn-more f all c.loop-combination.combination-index x x c.loop-combination.items.items w.0 lt is (inv.pushed h) (sym same ∙ w.1) ∙ ap Ok (sym w.2);
    }

pub returns-clause-answer : goal.returns-clause-answer
returns-clause-answer g c h =
    let inv = c.loop-combination.invariant in
    let s = g.C.Cells.cells c.args.cells.now in
    let steps = c.args.plan.now.steps.items in
    let all = c.args.plan.now.combinations.items in
    let f : Combination → Result (List Item) PointFault = λ t. choice_planned s t.coverages.items (option_map steps_view (slice_get steps t.steps)) in
    ap joined (each-choice s steps all) ∙ sym (turns-all f all c.loop-combination.combination-index (omega (arith, ap length c.deref-combination-items.ensures.value))) ∙ inv.pushed h

pub returns-in_err-push_combination-clause-reports : goal.returns-in_err-push_combination-clause-reports
returns-in_err-push_combination-clause-reports g c =
    let inv = c.loop-combination.invariant in
    let p = err_from_is_err_and c.from_residual.result c.from_residual.ensures.1 in
    rw (p.1, p.2) (passes-from _ _ _ _ inv.leaves.intact inv.failures c.in_err-push_combination.ensures.reports)
