-- The rows in common are written one after another, and the other cells stay as they are.
use Rattle.std.proofs.Common.{rules, arith, ◌≡◌, ◌-◌, ◌+◌, ◌*◌, refl, ◌∙◌, length}
use Rattle.std.proofs.lemmas.Grind.{common_steps}
use Rattle.arr_core.proofs.Points.{count-pos}
use Rattle.arr_core.specs.Domains.{count}
use Rattle.arr_core.proofs.Names.{by_first}
use Rattle.tile_store.specs.Numbers.{number_of}
use Rattle.tile_store.proofs.Fitting.{has_fewer}
use Rattle.tile_store.proofs.Rows.{written_all, rows_of_line, rows_step, row_within, length_lent, point_overlaid, line_count, rest_few}
use Rattle.tile_store.proofs.overlay.+overlay.Goals as goal

pub write_first-requires-clause-from : goal.write_first-requires-clause-from
write_first-requires-clause-from t c = has_fewer c.args.numbers.now _ _ (omega (arith, count-pos c.args.axes.now)) c.requires.from

pub returns-in-empty : goal.returns-in-empty
returns-in-empty t c =
    point_overlaid c.args.to_axes.now c.args.axes.now (number_of c.args.numbers.now) c.args.at c.is_empty.result _ _ (grind (arith, common_steps)) c.is_empty.ensures c.write_first.ensures

pub write_run-requires-clause-from : goal.write_run-requires-clause-from
write_run-requires-clause-from t c =
    let whole = by_first c.args.axes.now c.b-item.result c.in-len1-up-axes.len_at_least c.b-item.is in
    let line = line_count c.b-item.result _ c.args.axes.now whole (grind (arith, common_steps)) in
    has_fewer c.args.numbers.now _ _ (omega (arith, line, c.common_of-common.ensures.common.from_within)) c.requires.from

pub returns-then-is_empty-2 : goal.returns-then-is_empty-2
returns-then-is_empty-2 t c =
    written_all _ _ _ _ _ _ _ _ _ _ (number_of c.args.numbers.now) _ _ (by_first c.args.to_axes.now c.a-item.result c.in-len1-up.len_at_least c.a-item.is) (by_first c.args.axes.now c.b-item.result c.in-len1-up-axes.len_at_least c.b-item.is) refl refl c.common_of-common.ensures.common
    (rows_of_line _ _ _ _ (number_of c.args.numbers.now) _ _ (grind (arith, common_steps)) (grind (arith, common_steps)) c.write_run.ensures.inside c.write_run.ensures.below c.write_run.ensures.above)

pub overlay-requires : goal.overlay-requires
overlay-requires t c =
    let a_is = by_first c.args.to_axes.now c.a-item.result c.in-len1-up.len_at_least c.a-item.is in
    let b_is = by_first c.args.axes.now c.b-item.result c.in-len1-up-axes.len_at_least c.b-item.is in
    let to_within = row_within c.a-item.result _ _ c.count_points-to_row.result c.common_of-common.result.to c.common_of-common.result.count c.loop-step.step (length c.loop-step.to) a_is c.count_points-to_row.ensures.count c.common_of-common.ensures.common.to_within c.loop-step-test.true (omega arith) in
    let within = row_within c.b-item.result _ _ c.count_points-row.result c.common_of-common.result.from c.common_of-common.result.count c.loop-step.step (count c.args.axes.now) b_is c.count_points-row.ensures.count c.common_of-common.ensures.common.from_within c.loop-step-test.true refl in
    let row = c.count_points-to_row.result in
    let at = (c.common_of-common.result.to + c.loop-step.step) * row in
    let long = length_lent at (at + row - at) row c.loop-step.to _ refl (omega arith) to_within ∙ c.count_points-to_row.ensures.count in
    let some = has_fewer c.args.numbers.now _ _ (omega (arith, within, c.count_points-row.ensures.count)) c.requires.from in
    let small = rest_few c.a-item.result _ _ a_is c.requires.to_few in
    (search rules, (long, (some, ((rw a_is at c.requires.to_ordered).1, ((rw b_is at c.requires.ordered).1, (small, omega (arith, within)))))))

pub loop-step-preserved : goal.loop-step-preserved
loop-step-preserved t c =
    let within = row_within c.a-item.result _ _ c.count_points-to_row.result c.common_of-common.result.to c.common_of-common.result.count c.loop-step.step (length c.loop-step.to)
    (by_first c.args.to_axes.now c.a-item.result c.in-len1-up.len_at_least c.a-item.is) c.count_points-to_row.ensures.count c.common_of-common.ensures.common.to_within c.loop-step-test.true (omega arith) in
    let row = c.count_points-to_row.result in
    let at = (c.common_of-common.result.to + c.loop-step.step) * row in
    rows_step _ _ _ _ _ _ _ _ _ c.overlay.new.to c.count_points-to_row.ensures.count c.loop-step.invariant within (omega arith)
    (length_lent at (at + row - at) row c.loop-step.to c.overlay.new.to c.overlay.auto.to (omega arith) within) c.overlay.ensures

pub returns-after-loop-step : goal.returns-after-loop-step
returns-after-loop-step t c =
    let all : c.loop-step.step ≡ c.common_of-common.result.count = omega arith in
    written_all _ _ _ _ _ _ _ _ _ _ (number_of c.args.numbers.now) _ _ (by_first c.args.to_axes.now c.a-item.result c.in-len1-up.len_at_least c.a-item.is) (by_first c.args.axes.now c.b-item.result c.in-len1-up-axes.len_at_least c.b-item.is)
    c.count_points-to_row.ensures.count c.count_points-row.ensures.count c.common_of-common.ensures.common (rw all at c.loop-step.invariant)

pub write_first-requires-clause-to : goal.write_first-requires-clause-to
write_first-requires-clause-to t c = grind (arith, common_steps)

pub write_run-requires-clause-to : goal.write_run-requires-clause-to
write_run-requires-clause-to t c = grind (arith, common_steps)

pub write_run-requires-clause-few : goal.write_run-requires-clause-few
write_run-requires-clause-few t c = grind (arith, common_steps)

pub count_points-to_row-requires-clause-ordered : goal.count_points-to_row-requires-clause-ordered
count_points-to_row-requires-clause-ordered t c = grind (arith, common_steps)

pub count_points-to_row-requires-clause-few : goal.count_points-to_row-requires-clause-few
count_points-to_row-requires-clause-few t c = grind (arith, common_steps)

pub count_points-row-requires-clause-ordered : goal.count_points-row-requires-clause-ordered
count_points-row-requires-clause-ordered t c = grind (arith, common_steps)

pub count_points-row-requires-clause-few : goal.count_points-row-requires-clause-few
count_points-row-requires-clause-few t c = grind (arith, common_steps)

pub overflow_add-from_at-in-loop-step : goal.overflow_add-from_at-in-loop-step
overflow_add-from_at-in-loop-step t c = grind (arith, common_steps)

pub overflow_add-to_at-in-loop-step : goal.overflow_add-to_at-in-loop-step
overflow_add-to_at-in-loop-step t c = grind (arith, common_steps)

pub slice_bounds-overlay-end : goal.slice_bounds-overlay-end
slice_bounds-overlay-end t c = grind (arith, common_steps)

pub returns-in-empty-axes : goal.returns-in-empty-axes
returns-in-empty-axes t c = grind (arith, common_steps)
