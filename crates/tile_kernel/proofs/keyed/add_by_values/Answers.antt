-- Where each place has a value, or all places have one, the values are those of the columns.
use Rattle.std.proofs.Common.{refl, ◌≡◌, ◌∙◌, length, sym, ap, arith, rules, SFits, w64}
use Rattle.std.proofs.lemmas.Int.{to_z-of_z}
use Rattle.wcps_mean.specs.declared.cell.Outcome.TheVariants.{Value}
use Rattle.tile_kernel.proofs.Places.{places_are, value_there, narrow_places, narrow_there, same_there}
use Rattle.tile_kernel.proofs.keyed.add_by_values.Goals as goal

pub returns-in-Values-clause-stands : goal.returns-in-Values-clause-stands
returns-in-Values-clause-stands g c =
    c.tell_values.ensures.stands c.args.keys.now c.args.column.now
    (c.requires.keys.0 ∙ sym c.requires.places, λ k lt. c.requires.keys.1 k (omega (arith, lt, c.requires.places)))
    (sym c.requires.places, λ k lt. value_there _ _ _ _ _ _ _ k c.in-Values.is c.column.view_is c.column.invariant refl (omega (arith, lt, c.requires.places)))

pub tell_values-requires-in-Narrow-clause-cells : goal.tell_values-requires-in-Narrow-clause-cells
tell_values-requires-in-Narrow-clause-cells g c =
    let n : c.column.inside.len ≡ length c.args.column.now = places_are _ _ _ _ _ _ c.column.view_is c.column.invariant in
    let room = narrow_places _ _ _ _ _ c.in-Narrow.is c.column.invariant in
    omega (arith, n, room, c.requires.places)

pub returns-in-Narrow-clause-stands : goal.returns-in-Narrow-clause-stands
returns-in-Narrow-clause-stands g c =
    c.tell_values-in-Narrow.ensures.stands c.args.keys.now c.args.column.now
    (c.requires.keys.0 ∙ sym c.requires.places, λ k lt. c.requires.keys.1 k (omega (arith, lt, c.requires.places)))
    (sym c.requires.places, λ k lt. narrow_there _ _ _ _ _ _ k c.in-Narrow.is c.column.view_is c.column.invariant (omega (arith, lt, c.requires.places)))

pub returns-in-Value-clause-stands : goal.returns-in-Value-clause-stands
returns-in-Value-clause-stands g c =
    let fits : SFits w64 c.in-Value.value = search rules in
    c.tell_values-in-Value.ensures.stands c.args.keys.now c.args.column.now
    (c.requires.keys.0 ∙ sym c.requires.places, λ k lt. c.requires.keys.1 k (omega (arith, lt, c.requires.places)))
    (sym c.requires.places, λ k lt. same_there _ _ _ _ _ _ _ k c.in-Same.is c.column.view_is c.column.invariant (omega (arith, lt, c.requires.places)) ∙ c.in-Value.is ∙ ap Value (sym (to_z-of_z w64 c.in-Value.value fits)))
