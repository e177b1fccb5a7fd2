-- One more field has its cell at the point, and the fault of the first field with one is that of all of them.
use Rattle.std.proofs.Common.{rules, ◌≡◌, ◌<◌, ◌≤◌, ◌∙◌, ap, refl, sym, subst, arith, length, map, get_or, false, List, [], ◌∷◌, ◌++◌, append_assoc, Result, Ok, w64, SFits}
use Rattle.std.proofs.lemmas.Int.{to_z-of_z}
use Rattle.std.proofs.lemmas.Result.{err_from_is_err_and}
use Rattle.std.proofs.lemmas.Grind.{common_steps}
use Rattle.wcps_types.specs.Typed.{FieldTree, field_tree, fields_view}
use Rattle.wcps_types.specs.Renamed.{renamed, renamed_field}
use Rattle.wcps_mean.proofs.FewCells.{fields_over}
use Rattle.wcps_mean.proofs.ItemFields.{field_at}
use Rattle.arr_core.specs.declared.cell.Cell.{Cell}
use Rattle.wcps_mean.specs.declared.cell.PointFault.{PointFault}
use Rattle.wcps_mean.specs.Meaning.{val}
use Rattle.wcps_mean.specs.Scopes.{outcome_in, point_in}
use Rattle.wcps_mean.specs.Answer.{given, cell_of}
use Rattle.wcps_mean.specs.Errors.{PushesCells}
use Rattle.wcps_mean.proofs.Scoped.{leaves-on, same-on, outcome-same}
use Rattle.wcps_mean.proofs.Told.{tells-from}
use Rattle.wcps_mean.proofs.Joins.{turn-more, turn-stop, turns-all, pushed-ok, ok-pushed}
use Rattle.wcps_mean.proofs.answer.push_cells.Goals as goal

pub returns-in-Fault-clause-pushed : goal.returns-in-Fault-clause-pushed
returns-in-Fault-clause-pushed g c intact =
    let inv = c.loop-field.invariant in
    let s = g.C.Cells.cells c.args.cells.now in
    let scope = c.args.scope.now in
    let p = point_in scope in
    let bs = c.args.item.now.booleans.items in
    let cs = scope.coverages.now in
    let k = c.loop-field.field in
    let x : FieldTree = record { boolean = get_or bs k false; tree = renamed cs (field_tree c.args.item.now.node.value k) } in
    let all = map (renamed_field cs) (fields_view c.args.item.now.node.value 0 bs) in
    let lt : k < length bs = omega arith in
    let within : k < length all = omega (arith, lt, fields_over cs c.args.item.now.node.value 0 bs) in
    let is = field_at cs c.args.item.now.node.value bs k (get_or bs k false) false x lt refl in
    let f : FieldTree → Result (List Cell) PointFault = λ t. given (λ z. cell_of t.boolean z ∷ []) (val s t.tree [] p) in
    let o = c.in_ok-o.ensures.value (inv.leaves.intact intact)
    ∙ outcome-same scope _ s _ (field_tree c.deref.result.now k) inv.scope inv.leaves.cells
    ∙ ap (λ b. outcome_in scope (field_tree b k) s) c.deref.ensures
    ∙ ap (λ e. val s x.tree e p) c.requires.no_iterators in
    let w = pushed-ok _ _ _ (inv.pushed intact) in
    turn-stop f all k x x w.0 c.in-Fault.f within is w.1 (ap (given (λ z. cell_of x.boolean z ∷ [])) (sym o ∙ c.in-Fault.is))

pub loop-field-preserved : goal.loop-field-preserved
loop-field-preserved g c =
    let inv = c.loop-field.invariant in
    let s = g.C.Cells.cells c.args.cells.now in
    let scope = c.args.scope.now in
    let p = point_in scope in
    let bs = c.args.item.now.booleans.items in
    let cs = scope.coverages.now in
    let k = c.loop-field.field in
    let x : FieldTree = record { boolean = get_or bs k false; tree = renamed cs (field_tree c.args.item.now.node.value k) } in
    let all = map (renamed_field cs) (fields_view c.args.item.now.node.value 0 bs) in
    let lt : k < length bs = omega arith in
    let within : k < length all = omega (arith, lt, fields_over cs c.args.item.now.node.value 0 bs) in
    let is = field_at cs c.args.item.now.node.value bs k (get_or bs k false) false x lt refl in
    let f : FieldTree → Result (List Cell) PointFault = λ t. given (λ z. cell_of t.boolean z ∷ []) (val s t.tree [] p) in
    let o = λ (h : g.C.Cells.intact c.args.cells.now). c.in_ok-o.ensures.value (inv.leaves.intact h)
    ∙ outcome-same scope _ s _ (field_tree c.deref.result.now k) inv.scope inv.leaves.cells
    ∙ ap (λ b. outcome_in scope (field_tree b k) s) c.deref.ensures
    ∙ ap (λ e. val s x.tree e p) c.requires.no_iterators in
    let fits : SFits w64 c.in-Value.x = search rules in
    let cell : c.field_cell.result ≡ cell_of x.boolean c.in-Value.x = c.field_cell.ensures ∙ ap (cell_of x.boolean) (to_z-of_z w64 c.in-Value.x fits) in
    record {
      leaves = leaves-on _ _ _ _ inv.leaves c.in_ok-o.ensures.leaves;
      failures = c.in_ok-o.ensures.reports ∙ inv.failures;
      scope = same-on _ _ _ inv.scope c.in_ok-o.ensures.scope;
      pushed = λ h. let w = pushed-ok _ _ _ (inv.pushed h) in
          ok-pushed _ (w.0 ++ c.field_cell.result ∷ []) _ _
          (turn-more f all k x x w.0 (c.field_cell.result ∷ []) within is w.1 (ap (given (λ z. cell_of x.boolean z ∷ [])) (sym (o h) ∙ c.in-Value.is) ∙ ap (λ k. Ok (k ∷ [])) (sym cell)))
          (c.in_ok-push-in-Value.ensures.items ∙ ap (λ l. l ++ c.field_cell.result ∷ []) w.2 ∙ append_assoc c.args.list.now.items w.0 (c.field_cell.result ∷ []));
    }

pub returns-clause-pushed : goal.returns-clause-pushed
returns-clause-pushed g c intact =
    let inv = c.loop-field.invariant in
    let s = g.C.Cells.cells c.args.cells.now in
    let scope = c.args.scope.now in
    let p = point_in scope in
    let bs = c.args.item.now.booleans.items in
    let cs = scope.coverages.now in
    let all = map (renamed_field cs) (fields_view c.args.item.now.node.value 0 bs) in
    let f : FieldTree → Result (List Cell) PointFault = λ t. given (λ z. cell_of t.boolean z ∷ []) (val s t.tree [] p) in
    let le : length bs ≤ c.loop-field.field = omega arith in
    let past : length all ≤ c.loop-field.field = omega (arith, le, fields_over cs c.args.item.now.node.value 0 bs) in
    subst (λ r. PushesCells r c.args.list.now.items c.loop-field.list.items) (turns-all f all c.loop-field.field past) (inv.pushed intact)

pub returns-in_err-o-clause-reports : goal.returns-in_err-o-clause-reports
returns-in_err-o-clause-reports g c =
    let inv = c.loop-field.invariant in
    let p = err_from_is_err_and c.from_residual.result c.from_residual.ensures.1 in
    rw (p.1, p.2) (tells-from _ _ _ _ inv.leaves.intact inv.failures c.in_err-o.ensures.reports)

pub loop-field-init : goal.loop-field-init
loop-field-init g c = grind (arith, common_steps)

pub returns-in_err-o-clause-pushed : goal.returns-in_err-o-clause-pushed
returns-in_err-o-clause-pushed g c = grind (arith, common_steps)

pub returns-in_err-o-clause-scope : goal.returns-in_err-o-clause-scope
returns-in_err-o-clause-scope g c = grind (arith, common_steps)

pub returns-in_err-o-clause-leaves : goal.returns-in_err-o-clause-leaves
returns-in_err-o-clause-leaves g c = grind (arith, common_steps)

pub returns-in-Fault-clause-leaves : goal.returns-in-Fault-clause-leaves
returns-in-Fault-clause-leaves g c = grind (arith, common_steps)

pub returns-in-Fault-clause-reports : goal.returns-in-Fault-clause-reports
returns-in-Fault-clause-reports g c = grind (arith, common_steps)

pub returns-in_err-push-in-Value-clause-pushed : goal.returns-in_err-push-in-Value-clause-pushed
returns-in_err-push-in-Value-clause-pushed g c = grind (arith, common_steps)

pub returns-in_err-push-in-Value-clause-scope : goal.returns-in_err-push-in-Value-clause-scope
returns-in_err-push-in-Value-clause-scope g c = grind (arith, common_steps)

pub returns-in_err-push-in-Value-clause-leaves : goal.returns-in_err-push-in-Value-clause-leaves
returns-in_err-push-in-Value-clause-leaves g c = grind (arith, common_steps)

pub returns-in_err-push-in-Value-clause-reports : goal.returns-in_err-push-in-Value-clause-reports
returns-in_err-push-in-Value-clause-reports g c = grind (arith, common_steps)

pub returns-clause-scope : goal.returns-clause-scope
returns-clause-scope g c = grind (arith, common_steps)

pub returns-clause-leaves : goal.returns-clause-leaves
returns-clause-leaves g c = grind (arith, common_steps)

pub returns-clause-reports : goal.returns-clause-reports
returns-clause-reports g c = grind (arith, common_steps)
