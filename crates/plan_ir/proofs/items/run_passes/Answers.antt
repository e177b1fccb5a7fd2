-- One more pass has its outcome in a register, behind those of the passes before it.
use Rattle.std.proofs.Common.{◌∙◌, ap, sym, arith, [], ◌∷◌, ◌++◌, map, take}
use Rattle.std.proofs.lemmas.List.{map_more}
use Rattle.plan_ir.specs.Bodies.{fold_view}
use Rattle.plan_ir.specs.Run.{run}
use Rattle.plan_ir.specs.Plans.{pass_view}
use Rattle.plan_ir.specs.Planned.{registers, cells_of}
use Rattle.wcps_mean.proofs.Scoped.{leaves-on}
use Rattle.plan_ir.proofs.Registers.{registers_more}
use Rattle.plan_ir.proofs.items.run_passes.Goals as goal

pub loop-pass-preserved : goal.loop-pass-preserved
loop-pass-preserved g c =
    let inv = c.loop-pass.invariant in
    let s = g.C.Cells.cells c.args.cells.now in
    let coverages = c.loop-pass.frame.coverages.items in
    let passes = c.args.passes.now in
    let x = c.pass-item.result in
    let k = c.loop-pass.pass-index in
    let done = λ (h : g.C.Cells.intact c.args.cells.now).
    let before = inv.done h in
    let o = c.in_ok-o.ensures.value (inv.leaves.intact h)
    ∙ ap (λ s. run (cells_of s c.loop-pass.frame.coverages.items) c.loop-pass.frame.registers.items (fold_view x) c.loop-pass.vars.items) inv.leaves.cells
    ∙ ap (λ v. run (cells_of s coverages) c.loop-pass.frame.registers.items (fold_view x) v) inv.scope
    ∙ ap (λ r. run (cells_of s coverages) r (fold_view x) []) before in
    c.in_ok-push_register.ensures ∙ ap (λ l. l ++ c.in_ok-o.o ∷ []) before
    ∙ ap (λ v. registers (cells_of s coverages) (map pass_view (take k passes)) ++ v ∷ []) o
    ∙ sym (registers_more (cells_of s coverages) [] (map pass_view (take k passes)) (pass_view x))
    ∙ ap (registers (cells_of s coverages)) (ap (λ y. map pass_view (take k passes) ++ pass_view y ∷ []) c.pass-item.is ∙ sym (map_more pass_view passes k x (omega arith))) in
    record {
      leaves = leaves-on _ _ _ _ inv.leaves c.in_ok-o.ensures.leaves;
      failures = c.in_ok-o.ensures.reports ∙ inv.failures;
      coverages = inv.coverages;
      scope = c.in_ok-o.ensures.scope ∙ inv.scope;
      done = done;
    }
