-- One more point has its cells in the item, and the fault of the first point with one is the item's.
use Rattle.std.proofs.Common.{◌<◌, ◌∙◌, ap, sym, refl, arith, [], ◌++◌, length, get_or, Ok}
use Rattle.std.proofs.lemmas.Result.{err_from_is_err_and}
use Rattle.arr_core.specs.Domains.{points}
use Rattle.wcps_mean.proofs.Scoped.{leaves-on}
use Rattle.wcps_mean.proofs.Told.{passes-from}
use Rattle.wcps_mean.proofs.Joins.{turn-more, turn-stop, pushed-ok, tells-on}
use Rattle.plan_ir.specs.Plans.{item_view}
use Rattle.plan_ir.specs.Planned.{cells_at, cells_of}
use Rattle.plan_ir.proofs.Parts.{item-err}
use Rattle.plan_ir.proofs.items.item_of.Goals as goal

pub returns-in_err-push_cells-clause-answer : goal.returns-in_err-push_cells-clause-answer
returns-in_err-push_cells-clause-answer g c =
    let inv = c.loop-place.invariant in
    let cov = c.args.frame.now.coverages.items in
    let regs = c.args.frame.now.registers.items in
    let s = cells_of (g.C.Cells.cells c.args.cells.now) cov in
    let item = item_view c.args.item.now in
    let box = points c.args.item.now.domain in
    let x = get_or box c.loop-place.place [] in
    let here = ap (λ s. cells_at (cells_of s cov) regs item c.push_point.new.list.items) inv.leaves.cells
    ∙ ap (cells_at s regs item) (c.in_ok-push_point.ensures ∙ ap (λ l. l ++ x) inv.scope) in
    let lt : c.loop-place.place < length box = omega (arith, c.points-place-end.ensures.value) in
    let p = err_from_is_err_and c.from_residual-in_err-push_cells.result c.from_residual-in_err-push_cells.ensures.1 in
    rw (p.1, p.2) (λ h. tells-on _ _ _
    (λ f e. item-err s regs item f (turn-stop (cells_at s regs item) box c.loop-place.place x [] c.loop-place.list.items f lt refl (inv.pushed h) (sym here ∙ e)))
    (c.in_err-push_cells.ensures.pushed (inv.leaves.intact h)))

pub loop-place-preserved : goal.loop-place-preserved
loop-place-preserved g c =
    let inv = c.loop-place.invariant in
    let cov = c.args.frame.now.coverages.items in
    let regs = c.args.frame.now.registers.items in
    let s = cells_of (g.C.Cells.cells c.args.cells.now) cov in
    let item = item_view c.args.item.now in
    let box = points c.args.item.now.domain in
    let x = get_or box c.loop-place.place [] in
    let here = ap (λ s. cells_at (cells_of s cov) regs item c.push_point.new.list.items) inv.leaves.cells
    ∙ ap (cells_at s regs item) (c.in_ok-push_point.ensures ∙ ap (λ l. l ++ x) inv.scope) in
    let lt : c.loop-place.place < length box = omega (arith, c.points-place-end.ensures.value) in
    record {
      leaves = leaves-on _ _ _ _ inv.leaves c.in_ok-push_cells.ensures.leaves;
      failures = c.in_ok-push_cells.ensures.reports ∙ inv.failures;
      scope = c.truncate.ensures.items;
      pushed = λ h. let w = pushed-ok _ _ _ (c.in_ok-push_cells.ensures.pushed (inv.leaves.intact h)) in
          turn-more (cells_at s regs item) box c.loop-place.place x [] c.loop-place.list.items w.0 lt refl (inv.pushed h) (sym here ∙ w.1) ∙ ap Ok (sym w.2);
    }

pub returns-in_err-push_cells-clause-reports : goal.returns-in_err-push_cells-clause-reports
returns-in_err-push_cells-clause-reports g c =
    let inv = c.loop-place.invariant in
    let p = err_from_is_err_and c.from_residual-in_err-push_cells.result c.from_residual-in_err-push_cells.ensures.1 in
    rw (p.1, p.2) (passes-from _ _ _ _ inv.leaves.intact inv.failures c.in_err-push_cells.ensures.reports)
