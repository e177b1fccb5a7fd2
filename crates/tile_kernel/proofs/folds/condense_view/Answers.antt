-- There is a value at each place, or one at all places.
use Rattle.std.proofs.Common.{◌≡◌, ◌∙◌, ap, sym, refl, arith, rules, length, SFits, w64}
use Rattle.std.proofs.lemmas.Int.{to_z-of_z}
use Rattle.wcps_mean.specs.declared.cell.Outcome.TheVariants.{Value}
use Rattle.tile_kernel.proofs.Places.{places_are, value_there, narrow_there, same_there}
use Rattle.tile_kernel.proofs.folds.condense_view.Goals as goal

pub returns-in-Values-clause-stands : goal.returns-in-Values-clause-stands
returns-in-Values-clause-stands g c =
    let n : c.view.inside.len ≡ length c.args.view.now = places_are _ _ _ _ _ _ c.view.view_is c.view.invariant in
    c.condense_operand.ensures.stands c.args.view.now
    (sym n, λ k lt. value_there _ _ _ _ _ _ _ k c.in-Values.is c.view.view_is c.view.invariant refl (omega (arith, lt, n)))

pub returns-in-Narrow-clause-stands : goal.returns-in-Narrow-clause-stands
returns-in-Narrow-clause-stands g c =
    let n : c.view.inside.len ≡ length c.args.view.now = places_are _ _ _ _ _ _ c.view.view_is c.view.invariant in
    c.condense_operand-in-Narrow.ensures.stands c.args.view.now
    (sym n, λ k lt. narrow_there _ _ _ _ _ _ k c.in-Narrow.is c.view.view_is c.view.invariant (omega (arith, lt, n)))

pub returns-in-Value-clause-stands : goal.returns-in-Value-clause-stands
returns-in-Value-clause-stands g c =
    let n : c.view.inside.len ≡ length c.args.view.now = places_are _ _ _ _ _ _ c.view.view_is c.view.invariant in
    let fits : SFits w64 c.in-Value.value = search rules in
    c.condense_operand-in-Value.ensures.stands c.args.view.now
    (sym n, λ k lt. same_there _ _ _ _ _ _ _ k c.in-Same.is c.view.view_is c.view.invariant (omega (arith, lt, n)) ∙ c.in-Value.is ∙ ap Value (sym (to_z-of_z w64 c.in-Value.value fits)))
