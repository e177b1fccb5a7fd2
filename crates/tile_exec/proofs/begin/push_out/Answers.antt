-- Behind the tasks that are listed comes the condition, if there is one, and then the item.
use Rattle.std.proofs.Common.{Some}
use Rattle.plan_ir.specs.Plans.{steps_view}
use Rattle.tile_exec.specs.Tasks.{choice_condition, choice_item, choice_outs}
use Rattle.tile_exec.specs.Begun.{AddsOf}
use Rattle.tile_exec.proofs.Begun.{adds_more}
use Rattle.tile_exec.proofs.Finding.{on_ok}
use Rattle.tile_exec.proofs.begin.push_out.Goals as goal

pub returns : goal.returns
returns c =
    let steps = c.args.steps.now in
    let s = Some (steps_view steps) in
    let old = c.args.list.now in
    let between = c.push_condition.new.list in
    let new = c.push_item.new.list in
    on_ok c.push_item.result (AddsOf choice_item c.args.combination c.args.first steps between new) (AddsOf choice_outs c.args.combination c.args.first steps old new)
    (λ h plan d x. adds_more plan old between new (choice_condition d.coverages c.args.first s) (choice_item d.coverages c.args.first s) (c.in_ok-push_condition.ensures plan d x) (h plan d x)) c.push_item.ensures
