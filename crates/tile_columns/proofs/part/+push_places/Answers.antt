-- The rows of a part, one after the other.
use Rattle.std.proofs.Common.{rules, arith, ◌≡◌, ◌+◌, ◌*◌, ◌-◌, ◌<◌, ◌++◌, ◌∙◌, ap, List, ℕ, length, map, take, drop}
use Rattle.std.proofs.lemmas.Grind.{common_steps}
use Rattle.arr_core.specs.Domains.{points, rank_of, size_of}
use Rattle.arr_core.proofs.FirstAxis.{cut}
use Rattle.tile_columns.proofs.ByRows.{cut_boxes, row_few, rows_more, all_rows, last_axis}
use Rattle.tile_columns.proofs.Fetching.{on_ok}
use Rattle.tile_columns.proofs.part.+push_places.Goals as goal

pub returns-then-is_empty : goal.returns-then-is_empty
returns-then-is_empty t c =
    let area = c.args.area.now in
    let part = c.args.part.now in
    let area_is = cut area c.axis-item.result c.in-len1-up.len_at_least c.axis-item.is in
    let part_is = cut part c.own-item.result c.in-len1-up-part.len_at_least c.own-item.is in
    let none : length (take (length area - 1) (drop 1 area)) ≡ 0 = grind (arith, common_steps) in
    let row = last_axis area part _ _ _ _ c.args.first c.offset-skipped.result c.size-rows.result area_is part_is c.offset-skipped.ensures.gap c.size-rows.ensures.value none c.requires.inside in
    on_ok c.push_run-then-is_empty.result (λ e. e ∙ ap (λ l. c.args.list.now.items ++ l) row) c.push_run-then-is_empty.ensures

pub overflow_mul-skipped : goal.overflow_mul-skipped
overflow_mul-skipped t c =
    let area_is = cut c.args.area.now c.axis-item.result c.in-len1-up.len_at_least c.axis-item.is in
    let part_is = cut c.args.part.now c.own-item.result c.in-len1-up-part.len_at_least c.own-item.is in
    let x = cut_boxes _ _ _ _ _ _ area_is part_is c.requires.inside c.requires.ordered c.requires.part_ordered in
    let wide = x.wide in
    let at : c.offset-skipped.result + c.loop-step.step < size_of c.axis-item.result = omega (arith, wide, c.offset-skipped.ensures.gap, c.size-rows.ensures.value, c.loop-step-test.true) in
    let few = row_few c.axis-item.result c.args.area.now _ c.args.first (c.offset-skipped.result + c.loop-step.step) area_is at c.requires.few in
    let row = ap (λ n. (c.offset-skipped.result + c.loop-step.step) * n) c.count_points-row.ensures.count in
    omega (arith, few, row)

pub overflow_add-first-in-loop-step : goal.overflow_add-first-in-loop-step
overflow_add-first-in-loop-step t c =
    let area_is = cut c.args.area.now c.axis-item.result c.in-len1-up.len_at_least c.axis-item.is in
    let part_is = cut c.args.part.now c.own-item.result c.in-len1-up-part.len_at_least c.own-item.is in
    let x = cut_boxes _ _ _ _ _ _ area_is part_is c.requires.inside c.requires.ordered c.requires.part_ordered in
    let wide = x.wide in
    let at : c.offset-skipped.result + c.loop-step.step < size_of c.axis-item.result = omega (arith, wide, c.offset-skipped.ensures.gap, c.size-rows.ensures.value, c.loop-step-test.true) in
    let few = row_few c.axis-item.result c.args.area.now _ c.args.first (c.offset-skipped.result + c.loop-step.step) area_is at c.requires.few in
    let row = ap (λ n. (c.offset-skipped.result + c.loop-step.step) * n) c.count_points-row.ensures.count in
    omega (arith, few, row)

pub push_places-requires : goal.push_places-requires
push_places-requires t c =
    let area_is = cut c.args.area.now c.axis-item.result c.in-len1-up.len_at_least c.axis-item.is in
    let part_is = cut c.args.part.now c.own-item.result c.in-len1-up-part.len_at_least c.own-item.is in
    let x = cut_boxes _ _ _ _ _ _ area_is part_is c.requires.inside c.requires.ordered c.requires.part_ordered in
    let wide = x.wide in
    let at : c.offset-skipped.result + c.loop-step.step < size_of c.axis-item.result = omega (arith, wide, c.offset-skipped.ensures.gap, c.size-rows.ensures.value, c.loop-step-test.true) in
    let few = row_few c.axis-item.result c.args.area.now _ c.args.first (c.offset-skipped.result + c.loop-step.step) area_is at c.requires.few in
    let row = ap (λ n. (c.offset-skipped.result + c.loop-step.step) * n) c.count_points-row.ensures.count in
    (search rules, (x.inside, (x.ordered, (x.part_ordered, omega (arith, few, row)))))

pub loop-step-preserved : goal.loop-step-preserved
loop-step-preserved t c =
    let area = take (length c.args.area.now - 1) (drop 1 c.args.area.now) in
    let part = take (length c.args.part.now - 1) (drop 1 c.args.part.now) in
    let first = c.args.first in
    let skipped = c.offset-skipped.result in
    let row = c.count_points-row.result in
    let places : ℕ → List ℕ = λ k. map (λ p. (first + (skipped + k) * row) + rank_of area p) (points part) in
    rows_more places c.args.list.now.items c.loop-step.list.items c.push_places.new.list.items c.loop-step.step c.loop-step.invariant c.in_ok-push_places-in-len1-up-part.ensures

pub returns-after-loop-step : goal.returns-after-loop-step
returns-after-loop-step t c =
    let area = c.args.area.now in
    let part = c.args.part.now in
    let area_is = cut area c.axis-item.result c.in-len1-up.len_at_least c.axis-item.is in
    let part_is = cut part c.own-item.result c.in-len1-up-part.len_at_least c.own-item.is in
    let x = cut_boxes _ _ _ _ _ _ area_is part_is c.requires.inside c.requires.ordered c.requires.part_ordered in
    let all : c.loop-step.step ≡ size_of c.own-item.result = omega (arith, c.size-rows.ensures.value) in
    c.loop-step.invariant
    ∙ ap (λ l. c.args.list.now.items ++ l) (all_rows area part _ _ _ _ c.args.first c.offset-skipped.result c.count_points-row.result c.loop-step.step area_is part_is c.offset-skipped.ensures.gap c.count_points-row.ensures.count all x.low)

pub push_run-requires-then-is_empty : goal.push_run-requires-then-is_empty
push_run-requires-then-is_empty t c = grind (arith, common_steps)

pub count_points-row-requires-clause-ordered : goal.count_points-row-requires-clause-ordered
count_points-row-requires-clause-ordered t c = grind (arith, common_steps)

pub count_points-row-requires-clause-few : goal.count_points-row-requires-clause-few
count_points-row-requires-clause-few t c = grind (arith, common_steps)

pub returns-in-empty : goal.returns-in-empty
returns-in-empty t c = grind (arith, common_steps)
