-- The item comes behind the tasks that are listed, by whether it has fields.
use Rattle.std.proofs.Common.{◌≡◌, [], ◌∷◌, arith, refl, sym, subst, length, map}
use Rattle.std.proofs.lemmas.List.{length-map}
use Rattle.plan_ir.specs.Plans.{pass_view, field_view, item_view}
use Rattle.tile_exec.specs.declared.task.Task.{Task}
use Rattle.tile_exec.specs.declared.task.Part.TheVariants as part
use Rattle.tile_exec.specs.Tasks.{TaskTree, PartTree, item, fieldless}
use Rattle.tile_exec.specs.Begun.{Adds}
use Rattle.tile_exec.proofs.Begun.{chosen_task, item_some, item_none}
use Rattle.tile_exec.proofs.begin.push_item.Goals as goal

pub returns-then-is_empty : goal.returns-then-is_empty
returns-then-is_empty c = λ plan d x.
    let steps = c.args.steps.now in
    let n = length (map pass_view steps.passes.items) in
    let i = item_view steps.item in
    let fields = steps.item.fields in
    let task : Task = record { combination = c.args.combination; part = part.Fieldless; first = c.args.first; count = c.len.result } in
    let tree : TaskTree = record { coverages = d.coverages; first = c.args.first; count = n; part = fieldless i } in
    let count : c.len.result ≡ n = omega (arith, c.len.ensures, length-map steps.passes.items pass_view, steps.passes.ok.0) in
    let is = chosen_task plan c.args.combination steps d task tree x refl refl count refl refl in
    let none = item_none i i.fields _ c.is_empty.result c.if-is_empty.true c.is_empty.ensures (omega (arith, length-map fields.items field_view, fields.ok.0)) in
    subst (λ (p : PartTree). Adds plan c.args.list.now c.push.new.self (record { coverages = d.coverages; first = c.args.first; count = n; part = p } ∷ [])) (sym none) (c.in_ok-push.ensures plan tree is tt refl)

pub returns : goal.returns
returns c = λ plan d x.
    let steps = c.args.steps.now in
    let n = length (map pass_view steps.passes.items) in
    let i = item_view steps.item in
    let fields = steps.item.fields in
    let task : Task = record { combination = c.args.combination; part = part.Item; first = c.args.first; count = c.len.result } in
    let tree : TaskTree = record { coverages = d.coverages; first = c.args.first; count = n; part = item i } in
    let count : c.len.result ≡ n = omega (arith, c.len.ensures, length-map steps.passes.items pass_view, steps.passes.ok.0) in
    let is = chosen_task plan c.args.combination steps d task tree x refl refl count refl refl in
    let some = item_some i i.fields _ c.is_empty.result c.if-is_empty.false c.is_empty.ensures (omega (arith, length-map fields.items field_view, fields.ok.0)) in
    subst (λ (p : PartTree). Adds plan c.args.list.now c.push-2.new.self (record { coverages = d.coverages; first = c.args.first; count = n; part = p } ∷ [])) (sym some) (c.in_ok-push-2.ensures plan tree is c.axes-axes.ensures.domain c.tiles.ensures.value)
