-- One more point has its cells in the item, in the end all have, and the first fault of a point is the item's.
use Rattle.std.proofs.Common.{rules, ◌≡◌, ℕ, ℤ, ◌<◌, ◌∙◌, ap, sym, refl, arith, List, [], ◌++◌, length, drop, get_or, Ok}
use Rattle.std.proofs.lemmas.Result.{err_from_is_err_and}
use Rattle.arr_core.specs.Domains.{points}
use Rattle.wcps_types.specs.Cells.{max_cells}
use Rattle.wcps_types.specs.declared.typed.TypedItem.{TypedItem}
use Rattle.wcps_mean.specs.Reading.{CellsOf}
use Rattle.wcps_mean.specs.Scopes.{item_over}
use Rattle.wcps_mean.specs.Answer.{cells_at, item_cells, line_of, field_count}
use Rattle.wcps_mean.proofs.FewCells.{fields_over, few_products}
use Rattle.wcps_mean.proofs.Scoped.{leaves-on}
use Rattle.wcps_mean.proofs.Told.{passes-from}
use Rattle.wcps_mean.proofs.Joins.{turn-more, turn-stop, turns-all, pushed-ok, tells-on, item-err, item-ok}
use Rattle.wcps_mean.proofs.answer.item_of.Goals as goal

-- the cells of the point that was put in
here_at : (places : List ℕ) (i : TypedItem) (t s : CellsOf) (over : List ℕ) (base : ℕ) (now x : List ℤ) → t ≡ s → over ≡ places → base ≡ 0 → now ≡ x
    → cells_at t (item_over over i).fields (drop base now) ≡ cells_at s (item_over places i).fields x
here_at places i t s over base now x same is zero here =
    ap (λ r. cells_at r (item_over over i).fields (drop base now)) same
    ∙ ap (λ r. cells_at s (item_over r i).fields (drop base now)) is
    ∙ ap (λ n. cells_at s (item_over places i).fields (drop n now)) zero
    ∙ ap (λ l. cells_at s (item_over places i).fields l) here

pub returns-in_err-push_cells-clause-answer : goal.returns-in_err-push_cells-clause-answer
returns-in_err-push_cells-clause-answer g c =
    let inv = c.loop-place.invariant in
    let s = g.C.Cells.cells c.args.cells.now in
    let item = item_over c.args.coverages.now c.args.item.now in
    let box = points c.args.item.now.domain in
    let x = get_or box c.loop-place.place [] in
    let here = here_at c.args.coverages.now c.args.item.now _ s _ c.loop-place.scope.base c.push_point.new.list.items x inv.leaves.cells inv.coverages inv.base (c.in_ok-push_point.ensures ∙ ap (λ l. l ++ x) inv.stacked) in
    let lt : c.loop-place.place < length box = omega (arith, c.points-place-end.ensures.value) in
    let p = err_from_is_err_and c.from_residual-in_err-push_cells.result c.from_residual-in_err-push_cells.ensures.1 in
    rw (p.1, p.2) (λ h. tells-on _ _ _
    (λ f e. item-err s item f (turn-stop (cells_at s item.fields) box c.loop-place.place x [] c.loop-place.list.items f lt refl (inv.pushed h) (sym here ∙ e)))
    (c.in_err-push_cells.ensures.pushed (inv.leaves.intact h)))

pub loop-place-preserved : goal.loop-place-preserved
loop-place-preserved g c =
    let inv = c.loop-place.invariant in
    let s = g.C.Cells.cells c.args.cells.now in
    let fields = (item_over c.args.coverages.now c.args.item.now).fields in
    let box = points c.args.item.now.domain in
    let x = get_or box c.loop-place.place [] in
    let lt : c.loop-place.place < length box = omega (arith, c.points-place-end.ensures.value) in
    let here = here_at c.args.coverages.now c.args.item.now _ s _ c.loop-place.scope.base c.push_point.new.list.items x inv.leaves.cells inv.coverages inv.base (c.in_ok-push_point.ensures ∙ ap (λ l. l ++ x) inv.stacked) in
    record {
      leaves = leaves-on _ _ _ _ inv.leaves c.in_ok-push_cells.ensures.leaves;
      failures = c.in_ok-push_cells.ensures.reports ∙ inv.failures;
      coverages = c.in_ok-push_cells.ensures.scope.coverages ∙ inv.coverages;
      iterators = c.in_ok-push_cells.ensures.scope.iterators ∙ inv.iterators;
      stacked = c.truncate.ensures.items;
      base = c.in_ok-push_cells.ensures.scope.base ∙ inv.base;
      pushed = λ h. let w = pushed-ok _ _ _ (c.in_ok-push_cells.ensures.pushed (inv.leaves.intact h)) in
          turn-more (cells_at s fields) box c.loop-place.place x [] c.loop-place.list.items w.0 lt refl (inv.pushed h) (sym here ∙ w.1) ∙ ap Ok (sym w.2);
    }

pub returns-in_err-push_cells-clause-reports : goal.returns-in_err-push_cells-clause-reports
returns-in_err-push_cells-clause-reports g c =
    let inv = c.loop-place.invariant in
    let p = err_from_is_err_and c.from_residual-in_err-push_cells.result c.from_residual-in_err-push_cells.ensures.1 in
    rw (p.1, p.2) (passes-from _ _ _ _ inv.leaves.intact inv.failures c.in_err-push_cells.ensures.reports)

pub overflow_mul-count : goal.overflow_mul-count
overflow_mul-count g c =
    let few = few_products c.args.item.now.domain (length c.args.item.now.booleans.items) _ _ max_cells c.points.ensures.count c.count_fields-fields.ensures.same c.requires.few_cells in
    omega (arith, few)

pub returns-clause-answer : goal.returns-clause-answer
returns-clause-answer g c h =
    let inv = c.loop-place.invariant in
    let s = g.C.Cells.cells c.args.cells.now in
    let item = item_over c.args.coverages.now c.args.item.now in
    let box = points c.args.item.now.domain in
    let cells : item_cells s item ≡ Ok c.new.result = sym (turns-all (cells_at s item.fields) box c.loop-place.place (omega (arith, c.points-place-end.ensures.value))) ∙ inv.pushed h ∙ ap Ok (sym c.new.ensures) in
    let line : c.run_length.result ≡ line_of c.args.item.now.domain = search rules in
    let fields = c.count_fields-fields.ensures.value ∙ ap field_count (sym (fields_over c.args.coverages.now c.args.item.now.node.value 0 c.args.item.now.booleans.items)) in
    item-ok s item c.run_length.result c.count_fields-fields.result c.new.result cells line fields
