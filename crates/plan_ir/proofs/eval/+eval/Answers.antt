-- A read gives the coverage's cell, a table its item, and a fold what its points demand, condensed.
use Rattle.std.proofs.Common.{rules, ◌≡◌, ◌∙◌, ap, sym, subst, arith, ℤ, pos, List, ◌++◌, take, w64, SFits, slice_index_or}
use Rattle.std.specs.List.{flat_map}
use Rattle.std.proofs.lemmas.Int.{to_z-of_z}
use Rattle.arr_core.specs.Domains.{points, rank_of}
use Rattle.wcps_mean.specs.declared.cell.Outcome.{Outcome}
use Rattle.wcps_mean.specs.declared.cell.Outcome.TheVariants.{Value}
use Rattle.wcps_mean.specs.Condensers.{condensed, demanded}
use Rattle.wcps_mean.specs.Feeding.{Fed}
use Rattle.wcps_mean.proofs.Stacks.{take-whole}
use Rattle.plan_ir.specs.Bodies.{body_view, condition_view, fold_view}
use Rattle.plan_ir.specs.Run.{numbers_at, run}
use Rattle.plan_ir.specs.Planned.{cells_of}
use Rattle.plan_ir.proofs.Folds.{folded}
use Rattle.plan_ir.proofs.eval.+eval.Goals as goal

pub eval-returns-in_ok-z-in-Read-clause-value : goal.eval-returns-in_ok-z-in-Read-clause-value
eval-returns-in_ok-z-in-Read-clause-value g t c h =
    let s = g.C.Cells.cells c.args.cells.now in
    let coverages = c.args.frame.now.coverages.items in
    let vars = c.args.vars.now.items in
    let fits : SFits w64 c.in_ok-z-in-Read.z = search rules in
    let place = c.place_at-place.ensures ∙ ap (λ l. slice_index_or l c.in-Read.coverage 0) c.deref-in-Read-3.ensures.value in
    let point = c.deref-in-Read-4.ensures.value ∙ c.in_ok-point-in-Read.ensures
    ∙ ap (λ v. numbers_at v c.deref-in-Read-2.result.now) c.deref-in-Read.ensures.value
    ∙ ap (numbers_at vars) c.deref-in-Read-2.ensures.value in
    ap Value (to_z-of_z w64 c.in_ok-z-in-Read.z fits ∙ c.in_ok-z-in-Read.ensures.value h
    ∙ ap (λ k. s k c.in-Read.field c.deref-in-Read-4.result.now) place
    ∙ ap (s (slice_index_or coverages c.in-Read.coverage 0) c.in-Read.field) point)
    ∙ ap (λ b. run (cells_of s coverages) c.args.frame.now.registers.items (body_view b) vars) (sym c.in-Read.is)

pub eval-returns-in_ok-point-in-Table-clause-value : goal.eval-returns-in_ok-point-in-Table-clause-value
eval-returns-in_ok-point-in-Table-clause-value g t c h =
    let s = cells_of (g.C.Cells.cells c.args.cells.now) c.args.frame.now.coverages.items in
    let vars = c.args.vars.now.items in
    let fits : SFits w64 c.item_at.result = search rules in
    let point = c.deref-in-Table-3.ensures.value ∙ c.in_ok-point-in-Table.ensures
    ∙ ap (λ v. numbers_at v c.deref-in-Table-2.result.now) c.deref-in-Table.ensures.value
    ∙ ap (numbers_at vars) c.deref-in-Table-2.ensures.value in
    let place = c.rank_of-place.ensures.rank ∙ ap (λ a. rank_of a c.deref-in-Table-3.result.now) c.axes.ensures.value
    ∙ ap (rank_of c.in-Table.domain) point in
    ap Value (to_z-of_z w64 c.item_at.result fits ∙ c.item_at.ensures
    ∙ ap (λ l. slice_index_or l c.rank_of-place.result (pos 0)) c.deref-in-Table-4.ensures.value
    ∙ ap (λ n. slice_index_or c.in-Table.items.items n (pos 0)) place)
    ∙ ap (λ b. run s c.args.frame.now.registers.items (body_view b) vars) (sym c.in-Table.is)

pub eval-returns-in_ok-o-in-Fold-clause-value : goal.eval-returns-in_ok-o-in-Fold-clause-value
eval-returns-in_ok-o-in-Fold-clause-value g t c h =
    let s = cells_of (g.C.Cells.cells c.args.cells.now) c.args.frame.now.coverages.items in
    let regs = c.args.frame.now.registers.items in
    let vars = c.args.vars.now.items in
    c.in_ok-o-in-Fold.ensures.value h
    ∙ ap (λ f. run s regs (fold_view f) vars) c.deref-in-Fold.ensures
    ∙ ap (λ e. run s regs e vars) (sym (folded c.in-Fold.f))
    ∙ ap (λ b. run s regs (body_view b) vars) (sym c.in-Fold.is)

pub fold-returns-clause-value : goal.fold-returns-clause-value
fold-returns-clause-value g t c h =
    let inv = c.loop-place.invariant in
    let s = cells_of (g.C.Cells.cells c.args.cells.now) c.args.frame.now.coverages.items in
    let regs = c.args.frame.now.registers.items in
    let vars = c.args.vars.now.items in
    let box = points c.args.f.now.domain in
    let f : List ℤ → List Outcome = λ x. demanded (run s regs (condition_view c.args.f.now.condition) (vars ++ x)) (run s regs (body_view c.args.f.now.body) (vars ++ x)) in
    let all : take c.loop-place.place box ≡ box = take-whole _ box (omega (arith, c.points-place-end.ensures.value)) in
    c.finish.ensures (flat_map f box) (subst (λ ps. Fed c.loop-place.running (flat_map f ps)) all (inv.fed h))
    ∙ ap (λ op. condensed op (flat_map f box)) inv.op
