-- One more field has its cell, and the fault of the first field with one is that of all of them.
use Rattle.std.proofs.Common.{rules, ◌≡◌, ◌∙◌, ap, sym, subst, arith, List, [], ◌∷◌, ◌++◌, append_assoc, Result, Ok, w64, SFits}
use Rattle.std.proofs.lemmas.Int.{to_z-of_z}
use Rattle.arr_core.specs.declared.cell.Cell.{Cell}
use Rattle.wcps_mean.specs.declared.cell.PointFault.{PointFault}
use Rattle.wcps_mean.specs.Answer.{joined, given, cell_of}
use Rattle.wcps_mean.specs.Errors.{PushesCells}
use Rattle.wcps_mean.proofs.Scoped.{leaves-on}
use Rattle.wcps_mean.proofs.Joins.{turn-more, turn-stop, turns-all, map-map, pushed-ok, ok-pushed}
use Rattle.plan_ir.specs.declared.plan.Field.{Field}
use Rattle.plan_ir.specs.Bodies.{body_view}
use Rattle.plan_ir.specs.Run.{run}
use Rattle.plan_ir.specs.Plans.{field_view}
use Rattle.plan_ir.specs.Planned.{field_cell, cells_of}
use Rattle.plan_ir.proofs.items.push_fields.Goals as goal

pub returns-in-Fault-clause-pushed : goal.returns-in-Fault-clause-pushed
returns-in-Fault-clause-pushed g c intact =
    let inv = c.loop-field.invariant in
    let s = g.C.Cells.cells c.args.cells.now in
    let cov = c.args.frame.now.coverages.items in
    let regs = c.args.frame.now.registers.items in
    let vars = c.args.vars.now.items in
    let x = c.field-item.result in
    let f : Field → Result (List Cell) PointFault = λ t. field_cell (cells_of s cov) regs vars (field_view t) in
    let o = c.in_ok-o.ensures.value (inv.leaves.intact intact)
    ∙ ap (λ s. run (cells_of s cov) regs (body_view x.body) c.loop-field.vars.items) inv.leaves.cells
    ∙ ap (λ v. run (cells_of s cov) regs (body_view x.body) v) inv.scope in
    let w = pushed-ok _ _ _ (inv.pushed intact) in
    ap joined (map-map (field_cell (cells_of s cov) regs vars) field_view c.args.fields.now)
    ∙ turn-stop f c.args.fields.now c.loop-field.field-index x x w.0 c.in-Fault.f (omega arith) c.field-item.is w.1 (ap (given (λ z. cell_of x.boolean z ∷ [])) (sym o ∙ c.in-Fault.is))

pub loop-field-preserved : goal.loop-field-preserved
loop-field-preserved g c =
    let inv = c.loop-field.invariant in
    let s = g.C.Cells.cells c.args.cells.now in
    let cov = c.args.frame.now.coverages.items in
    let regs = c.args.frame.now.registers.items in
    let vars = c.args.vars.now.items in
    let x = c.field-item.result in
    let f : Field → Result (List Cell) PointFault = λ t. field_cell (cells_of s cov) regs vars (field_view t) in
    let o = λ (h : g.C.Cells.intact c.args.cells.now). c.in_ok-o.ensures.value (inv.leaves.intact h)
    ∙ ap (λ s. run (cells_of s cov) regs (body_view x.body) c.loop-field.vars.items) inv.leaves.cells
    ∙ ap (λ v. run (cells_of s cov) regs (body_view x.body) v) inv.scope in
    let fits : SFits w64 c.in-Value.x = search rules in
    let cell : c.cell_of.result ≡ cell_of x.boolean c.in-Value.x = c.cell_of.ensures ∙ ap (cell_of x.boolean) (to_z-of_z w64 c.in-Value.x fits) in
    record {
      leaves = leaves-on _ _ _ _ inv.leaves c.in_ok-o.ensures.leaves;
      failures = c.in_ok-o.ensures.reports ∙ inv.failures;
      scope = c.in_ok-o.ensures.scope ∙ inv.scope;
      pushed = λ h. let w = pushed-ok _ _ _ (inv.pushed h) in
          ok-pushed _ (w.0 ++ c.cell_of.result ∷ []) _ _
          (turn-more f c.args.fields.now c.loop-field.field-index x x w.0 (c.cell_of.result ∷ []) (omega arith) c.field-item.is w.1 (ap (given (λ z. cell_of x.boolean z ∷ [])) (sym (o h) ∙ c.in-Value.is) ∙ ap (λ k. Ok (k ∷ [])) (sym cell)))
          (c.in_ok-push-in-Value.ensures.items ∙ ap (λ l. l ++ c.cell_of.result ∷ []) w.2 ∙ append_assoc c.args.list.now.items w.0 (c.cell_of.result ∷ []));
    }

pub returns-clause-pushed : goal.returns-clause-pushed
returns-clause-pushed g c intact =
    let inv = c.loop-field.invariant in
    let s = g.C.Cells.cells c.args.cells.now in
    let cov = c.args.frame.now.coverages.items in
    let regs = c.args.frame.now.registers.items in
    let vars = c.args.vars.now.items in
    let f : Field → Result (List Cell) PointFault = λ t. field_cell (cells_of s cov) regs vars (field_view t) in
    subst (λ r. PushesCells r c.args.list.now.items c.loop-field.list.items)
    (turns-all f c.args.fields.now c.loop-field.field-index (omega arith) ∙ sym (ap joined (map-map (field_cell (cells_of s cov) regs vars) field_view c.args.fields.now)))
    (inv.pushed intact)
