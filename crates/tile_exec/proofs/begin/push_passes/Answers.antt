-- One more pass of the combination is listed, and in the end all of them.
use Rattle.std.proofs.Common.{◌≡◌, ◌≤◌, arith, sym, subst, length, map, refl}
use Rattle.std.specs.Prelude.{IsSomeAnd}
use Rattle.std.proofs.lemmas.List.{length-map}
use Rattle.std.proofs.lemmas.Option.{slice_get_read}
use Rattle.plan_ir.specs.Plans.{pass_view}
use Rattle.tile_exec.specs.declared.task.Task.{Task}
use Rattle.tile_exec.specs.declared.task.Part.TheVariants as part
use Rattle.tile_exec.specs.Tasks.{TaskTree, pass, pass_tasks}
use Rattle.tile_exec.specs.Begun.{Adds}
use Rattle.tile_columns.proofs.TileOrders.{take_whole}
use Rattle.tile_exec.proofs.Begun.{chosen_task, pass_more}
use Rattle.tile_exec.proofs.begin.push_passes.Goals as goal

pub loop-k-preserved : goal.loop-k-preserved
loop-k-preserved c = λ plan d x.
    let steps = c.args.steps.now in
    let k = c.loop-k.k in
    let q = c.index-pass.result.now in
    let at = slice_get_read steps.passes.items (length steps.passes.items) k q refl (omega (arith, c.loop-k-test.true, c.len-k-end.ensures, steps.passes.ok.0)) c.index-pass.ensures in
    let task : Task = record { combination = c.args.combination; part = part.Pass; first = c.args.first; count = k } in
    let tree : TaskTree = record { coverages = d.coverages; first = c.args.first; count = k; part = pass (pass_view q) } in
    let is = chosen_task plan c.args.combination steps d task tree x refl refl refl refl (subst (λ o. IsSomeAnd o (λ r. pass_view r ≡ pass_view q)) (sym at) refl) in
    pass_more plan c.args.list.now c.loop-k.list c.push.new.self d.coverages c.args.first k steps.passes.items q at (c.loop-k.invariant plan d x) (c.in_ok-push.ensures plan tree is c.axes-axes.ensures.domain c.tiles.ensures.value)

pub returns : goal.returns
returns c = λ plan d x.
    let passes = c.args.steps.now.passes in
    let few : length (map pass_view passes.items) ≤ c.loop-k.k = omega (arith, length-map passes.items pass_view, c.loop-k-test.false, c.len-k-end.ensures, passes.ok.0) in
    subst (λ l. Adds plan c.args.list.now c.loop-k.list (pass_tasks d.coverages c.args.first 0 l)) (take_whole c.loop-k.k (map pass_view passes.items) few) (c.loop-k.invariant plan d x)
