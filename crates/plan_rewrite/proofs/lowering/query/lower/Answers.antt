-- The plan gives the query's answer and is well-formed, and the combinations and their work bound its units.
use Rattle.std.proofs.Common.{◌^◌, ◌<◌, ◌≤◌, ◌∙◌, ap, sym, subst, map, length, arith}
use Rattle.std.proofs.lemmas.List.{length-map}
use Rattle.wcps_types.specs.Renamed.{combination_view}
use Rattle.wcps_types.specs.Work.{query_work, max_work}
use Rattle.wcps_types.specs.TypedQueries.{trees_in}
use Rattle.plan_ir.specs.Plans.{steps_view, choice_view}
use Rattle.plan_ir.specs.Planned.{planned}
use Rattle.plan_ir.specs.Placed.{IsPlan}
use Rattle.plan_ir.specs.FoldPoints.{unit_bound}
use Rattle.plan_rewrite.specs.Lowered.{work_bound}
use Rattle.plan_rewrite.specs.LoweredPlans.{lowered_choices}
use Rattle.plan_rewrite.proofs.LoweredQueries.{query-means, query-placed, query-within, same-plan, choices-map, as-many}
use Rattle.plan_rewrite.proofs.lowering.query.lower.Goals as goal

pub returns-clause-planned : goal.returns-clause-planned
returns-clause-planned c s =
    let q = c.args.query.now in
    let trees = trees_in q in
    let steps = map steps_view c.in_ok-steps.steps.items in
    let all = q.combinations.items in
    let is = same-plan c.in_ok-coverages.coverages.items q.coverages.items steps (map choice_view c.in_ok-combinations.combinations.items) (lowered_choices steps all)
    (c.in_ok-coverages.ensures ∙ c.coverages.ensures)
    (c.in_ok-combinations.ensures ∙ ap (λ l. lowered_choices l c.combinations.result.now) c.deref.ensures.value ∙ ap (lowered_choices c.in_ok-steps.steps.items) c.combinations.ensures ∙ sym (choices-map steps_view c.in_ok-steps.steps.items all)) in
    ap (planned s) is ∙ query-means q.coverages.items trees steps all s c.in_ok-steps.ensures

pub returns-clause-placed : goal.returns-clause-placed
returns-clause-placed c =
    let q = c.args.query.now in
    let trees = trees_in q in
    let steps = map steps_view c.in_ok-steps.steps.items in
    let all = q.combinations.items in
    let few : length all < 2 ^ 63 = omega (arith, q.combinations.ok.0, q.combinations.ok.1, q.combinations.small) in
    let little : query_work (map (combination_view trees) all) ≤ max_work = subst (λ n. n ≤ max_work) q.told q.little_work in
    let is = same-plan c.in_ok-coverages.coverages.items q.coverages.items steps (map choice_view c.in_ok-combinations.combinations.items) (lowered_choices steps all)
    (c.in_ok-coverages.ensures ∙ c.coverages.ensures)
    (c.in_ok-combinations.ensures ∙ ap (λ l. lowered_choices l c.combinations.result.now) c.deref.ensures.value ∙ ap (lowered_choices c.in_ok-steps.steps.items) c.combinations.ensures ∙ sym (choices-map steps_view c.in_ok-steps.steps.items all)) in
    subst IsPlan (sym is) (query-placed q.coverages.items trees steps all c.in_ok-steps.ensures q.typed few little)

pub returns-clause-units : goal.returns-clause-units
returns-clause-units c =
    let q = c.args.query.now in
    let trees = trees_in q in
    let steps = map steps_view c.in_ok-steps.steps.items in
    let all = q.combinations.items in
    let is = same-plan c.in_ok-coverages.coverages.items q.coverages.items steps (map choice_view c.in_ok-combinations.combinations.items) (lowered_choices steps all)
    (c.in_ok-coverages.ensures ∙ c.coverages.ensures)
    (c.in_ok-combinations.ensures ∙ ap (λ l. lowered_choices l c.combinations.result.now) c.deref.ensures.value ∙ ap (lowered_choices c.in_ok-steps.steps.items) c.combinations.ensures ∙ sym (choices-map steps_view c.in_ok-steps.steps.items all)) in
    let views = map (combination_view trees) all in
    subst (λ p. unit_bound p ≤ work_bound views) (sym is) (query-within q.coverages.items trees steps all c.in_ok-steps.ensures q.some)

pub returns-clause-shared : goal.returns-clause-shared
returns-clause-shared c =
    sym (length-map c.in_ok-steps.steps.items steps_view) ∙ as-many (trees_in c.args.query.now) (map steps_view c.in_ok-steps.steps.items) c.in_ok-steps.ensures
