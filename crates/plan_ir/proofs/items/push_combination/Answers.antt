-- A combination gives what its steps give over its coverages, and without steps it gives nothing.
use Rattle.std.proofs.Common.{sym, subst, append-nil}
use Rattle.std.specs.Prelude.{option_map}
use Rattle.wcps_mean.specs.Errors.{PushesCells}
use Rattle.plan_ir.specs.Plans.{steps_view}
use Rattle.plan_ir.specs.Planned.{steps_planned, choice_planned, cells_of}
use Rattle.plan_ir.proofs.items.push_combination.Goals as goal

pub returns-in-None-clause-pushed : goal.returns-in-None-clause-pushed
returns-in-None-clause-pushed g c h =
    subst (λ o. PushesCells (choice_planned (g.C.Cells.cells c.args.cells.now) c.args.combination.now.coverages.items (option_map steps_view o)) c.args.items.now.items c.args.items.now.items) c.in-None.ensures (sym (append-nil c.args.items.now.items))

pub returns-in_ok-push_steps-in-Some-clause-pushed : goal.returns-in_ok-push_steps-in-Some-clause-pushed
returns-in_ok-push_steps-in-Some-clause-pushed g c h =
    let s = g.C.Cells.cells c.args.cells.now in
    subst (λ o. PushesCells (choice_planned s c.args.combination.now.coverages.items (option_map steps_view o)) c.args.items.now.items c.push_steps.new.items.items) c.in-Some.ensures
    (subst (λ l. PushesCells (steps_planned (cells_of s l) (steps_view c.in-Some.steps.now)) c.args.items.now.items c.push_steps.new.items.items) c.in_ok-coverages-in-Some.ensures (c.in_ok-push_steps-in-Some.ensures.pushed h))
