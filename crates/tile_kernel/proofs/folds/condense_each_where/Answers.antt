-- The condition's values choose the places, and one value for all of them chooses each place or none.
use Rattle.std.proofs.Common.{◌≡◌, ◌∙◌, ap, sym, arith, refl, length, SFits, w64, rules, true, false}
use Rattle.std.proofs.lemmas.Int.{to_z-of_z}
use Rattle.arr_core.specs.Cells.{truth_of}
use Rattle.tile_kernel.proofs.Places.{places_are, value_there, narrow_places, narrow_there, same_there}
use Rattle.tile_kernel.proofs.Tellings.{each_where_true, each_where_false}
use Rattle.tile_kernel.proofs.folds.condense_each_where.Goals as goal

pub returns-in-Values : goal.returns-in-Values
returns-in-Values c =
    c.condense_chosen.ensures c.args.condition.now
    (c.requires, λ k lt. value_there _ _ _ _ _ _ _ k c.in-Values.is c.condition.view_is c.condition.invariant refl (omega (arith, lt, c.requires)))

pub condense_chosen-requires-in-Narrow : goal.condense_chosen-requires-in-Narrow
condense_chosen-requires-in-Narrow c =
    let n : c.condition.inside.len ≡ length c.args.condition.now = places_are _ _ _ _ _ _ c.condition.view_is c.condition.invariant in
    let room = narrow_places _ _ _ _ _ c.in-Narrow.is c.condition.invariant in
    omega (arith, n, room, c.requires)

pub returns-in-Narrow : goal.returns-in-Narrow
returns-in-Narrow c =
    c.condense_chosen-in-Narrow.ensures c.args.condition.now
    (c.requires, λ k lt. narrow_there _ _ _ _ _ _ k c.in-Narrow.is c.condition.view_is c.condition.invariant (omega (arith, lt, c.requires)))

pub returns-then-is_set : goal.returns-then-is_set
returns-then-is_set c =
    let fits : SFits w64 c.in-Value.x = search rules in
    let yes : truth_of c.in-Value.x ≡ true = ap truth_of (sym (to_z-of_z w64 c.in-Value.x fits)) ∙ sym c.is_set.ensures ∙ c.if-is_set.true in
    each_where_true c.condense_each.result c.args.op c.args.condition.now c.args.column.now c.in-Value.x c.requires
    (λ k lt. same_there _ _ _ _ _ _ _ k c.in-Same.is c.condition.view_is c.condition.invariant lt ∙ c.in-Value.is) yes c.condense_each.ensures.stands c.condense_each.ensures.op

pub returns-in-Value : goal.returns-in-Value
returns-in-Value c =
    let fits : SFits w64 c.in-Value.x = search rules in
    let no : truth_of c.in-Value.x ≡ false = ap truth_of (sym (to_z-of_z w64 c.in-Value.x fits)) ∙ sym c.is_set.ensures ∙ c.if-is_set.false in
    each_where_false c.empty.result c.args.op c.args.condition.now c.args.column.now c.in-Value.x c.requires
    (λ k lt. same_there _ _ _ _ _ _ _ k c.in-Same.is c.condition.view_is c.condition.invariant lt ∙ c.in-Value.is) no c.empty.ensures.op c.empty.ensures.stands
