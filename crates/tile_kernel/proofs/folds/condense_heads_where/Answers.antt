-- The condition's values choose the runs, and one value for all of them chooses each run or none.
use Rattle.std.proofs.Common.{◌≡◌, ◌∙◌, ap, sym, arith, refl, length, SFits, w64, rules, true, false}
use Rattle.std.proofs.lemmas.Int.{to_z-of_z}
use Rattle.arr_core.specs.Cells.{truth_of}
use Rattle.tile_kernel.proofs.Places.{places_are, value_there, narrow_places, narrow_there, same_there}
use Rattle.tile_kernel.proofs.Tellings.{runs_where_true, runs_where_false, counted_all}
use Rattle.tile_kernel.proofs.folds.condense_heads_where.Goals as goal

pub condense_view-requires-clause-few : goal.condense_view-requires-clause-few
condense_view-requires-clause-few c =
    let all = counted_all c.args.counts.now (length c.args.column.now) c.requires.column in
    omega (arith, all, c.requires.few)

pub returns-in-Values : goal.returns-in-Values
returns-in-Values c =
    c.condense_counted.ensures c.args.chosen.now
    (c.requires.condition, λ k lt. value_there _ _ _ _ _ _ _ k c.in-Values.is c.chosen.view_is c.chosen.invariant refl (omega (arith, lt, c.requires.condition)))

pub condense_counted-requires-in-Narrow-clause-condition : goal.condense_counted-requires-in-Narrow-clause-condition
condense_counted-requires-in-Narrow-clause-condition c =
    let n : c.chosen.inside.len ≡ length c.args.chosen.now = places_are _ _ _ _ _ _ c.chosen.view_is c.chosen.invariant in
    let room = narrow_places _ _ _ _ _ c.in-Narrow.is c.chosen.invariant in
    omega (arith, n, room, c.requires.condition)

pub returns-in-Narrow : goal.returns-in-Narrow
returns-in-Narrow c =
    c.condense_counted-in-Narrow.ensures c.args.chosen.now
    (c.requires.condition, λ k lt. narrow_there _ _ _ _ _ _ k c.in-Narrow.is c.chosen.view_is c.chosen.invariant (omega (arith, lt, c.requires.condition)))

pub returns-then-is_set : goal.returns-then-is_set
returns-then-is_set c =
    let fits : SFits w64 c.in-Value.x = search rules in
    let yes : truth_of c.in-Value.x ≡ true = ap truth_of (sym (to_z-of_z w64 c.in-Value.x fits)) ∙ sym c.is_set.ensures ∙ c.if-is_set.true in
    runs_where_true c.condense_view.result c.args.op c.args.chosen.now c.args.column.now c.args.counts.now c.in-Value.x c.requires.condition c.requires.column
    (λ k lt. same_there _ _ _ _ _ _ _ k c.in-Same.is c.chosen.view_is c.chosen.invariant lt ∙ c.in-Value.is) yes c.condense_view.ensures.stands c.condense_view.ensures.op

pub returns-in-Value : goal.returns-in-Value
returns-in-Value c =
    let fits : SFits w64 c.in-Value.x = search rules in
    let no : truth_of c.in-Value.x ≡ false = ap truth_of (sym (to_z-of_z w64 c.in-Value.x fits)) ∙ sym c.is_set.ensures ∙ c.if-is_set.false in
    runs_where_false c.empty.result c.args.op c.args.chosen.now c.args.column.now c.args.counts.now c.in-Value.x c.requires.condition c.requires.column
    (λ k lt. same_there _ _ _ _ _ _ _ k c.in-Same.is c.chosen.view_is c.chosen.invariant lt ∙ c.in-Value.is) no c.empty.ensures.op c.empty.ensures.stands
