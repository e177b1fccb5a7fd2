-- A condition is one task more, behind those that are listed.
use Rattle.std.proofs.Common.{◌≡◌, arith, refl, sym, ap, subst, length, map, option_map}
use Rattle.std.specs.Prelude.{IsSomeAnd}
use Rattle.std.proofs.lemmas.List.{length-map}
use Rattle.plan_ir.specs.Bodies.{body_view}
use Rattle.plan_ir.specs.Plans.{pass_view}
use Rattle.tile_exec.specs.declared.task.Task.{Task}
use Rattle.tile_exec.specs.declared.task.Part.TheVariants as part
use Rattle.tile_exec.specs.Tasks.{TaskTree, condition, condition_tasks}
use Rattle.tile_exec.specs.Begun.{Adds}
use Rattle.tile_exec.proofs.Begun.{chosen_task}
use Rattle.tile_exec.proofs.begin.push_condition.Goals as goal

pub returns-in_ok-push-in-Some : goal.returns-in_ok-push-in-Some
returns-in_ok-push-in-Some c = λ plan d x.
    let steps = c.args.steps.now in
    let n = length (map pass_view steps.passes.items) in
    let b = c.in-Some.field-0 in
    let task : Task = record { combination = c.args.combination; part = part.Condition; first = c.args.first; count = c.len.result } in
    let tree : TaskTree = record { coverages = d.coverages; first = c.args.first; count = n; part = condition (body_view b) } in
    let count : c.len.result ≡ n = omega (arith, c.len.ensures, length-map steps.passes.items pass_view, steps.passes.ok.0) in
    let is = chosen_task plan c.args.combination steps d task tree x refl refl count refl (subst (λ o. IsSomeAnd o (λ a. body_view a ≡ body_view b)) (sym c.in-Some.is) refl) in
    subst (λ o. Adds plan c.args.list.now c.push.new.self (condition_tasks d.coverages c.args.first n o)) (sym (ap (option_map body_view) c.in-Some.is))
    (c.in_ok-push-in-Some.ensures plan tree is tt refl)
