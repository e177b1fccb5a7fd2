-- The passes of one more combination are listed, and in the end those of all.
use Rattle.std.proofs.Common.{◌+◌, ◌≤◌, [], arith, subst, length, map, get_or}
use Rattle.std.proofs.lemmas.List.{length-map}
use Rattle.plan_ir.specs.Plans.{Choice, plan_view, choice_view}
use Rattle.tile_exec.specs.Tasks.{all_passes}
use Rattle.tile_exec.specs.Begun.{Adds, IsChosen}
use Rattle.tile_columns.proofs.TileOrders.{take_whole}
use Rattle.tile_exec.proofs.Beginning.{registers_few}
use Rattle.tile_exec.proofs.Begun.{total_more, passes_more}
use Rattle.tile_exec.proofs.begin.push_all_passes.Goals as goal

pub loop-k-preserved : goal.loop-k-preserved
loop-k-preserved c =
    let plan = c.args.plan.now in
    let k = c.loop-k.k in
    let none : Choice = record { steps = 0; coverages = [] } in
    let one = get_or (plan_view plan).combinations k none in
    let s = c.steps_at-steps.result.now in
    let x : IsChosen plan k s one = c.steps_at-steps.ensures none in
    let inv = c.loop-k.invariant in
    let sum = total_more plan k s one c.loop-k.first x inv.first in
    record {
      first = omega (arith, sum, c.len-first.ensures, s.passes.ok.0);
      adds = passes_more plan c.args.list.now c.loop-k.list c.push_passes.new.list k s one c.loop-k.first x inv.first inv.adds (c.in_ok-push_passes.ensures plan one x);
    }

pub overflow_add-first : goal.overflow_add-first
overflow_add-first c =
    let plan = c.args.plan.now in
    let k = c.loop-k.k in
    let none : Choice = record { steps = 0; coverages = [] } in
    let one = get_or (plan_view plan).combinations k none in
    let s = c.steps_at-steps.result.now in
    let sum = total_more plan k s one c.loop-k.first (c.steps_at-steps.ensures none) c.loop-k.invariant.first in
    let few = registers_few (plan_view plan) (k + 1) c.requires in
    omega (arith, sum, few, c.len-first.ensures, s.passes.ok.0)

pub returns : goal.returns
returns c =
    let plan = c.args.plan.now in
    let few : length (map choice_view plan.combinations.items) ≤ c.loop-k.k = omega (arith, length-map plan.combinations.items choice_view, c.loop-k-test.false, c.len-k-end.ensures, plan.combinations.ok.0) in
    subst (λ l. Adds plan c.args.list.now c.loop-k.list (all_passes (plan_view plan).steps 0 l)) (take_whole c.loop-k.k (plan_view plan).combinations few) c.loop-k.invariant.adds
