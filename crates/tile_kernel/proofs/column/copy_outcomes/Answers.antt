-- One more place has the value and the fault of its outcome, and is a value where it has no fault.
use Rattle.std.proofs.Common.{◌∙◌, sym, ap, not, arith, SFits, w64, rules}
use Rattle.std.proofs.lemmas.Int.{to_z-of_z}
use Rattle.std.proofs.lemmas.Grind.{common_steps}
use Rattle.tile_kernel.specs.Columns.{outcome_of, outcome_at}
use Rattle.tile_kernel.proofs.Falsity.{and_first, and_second, none_by}
use Rattle.tile_kernel.proofs.Places.{mixed_written, written}
use Rattle.tile_kernel.proofs.column.copy_outcomes.Goals as goal

pub loop-place-preserved : goal.loop-place-preserved
loop-place-preserved c =
    let fits : SFits w64 c.parts-value.result.0 = search rules in
    let place = c.loop-place.place in
    let outcomes = outcome_at c.args.outcomes.now in
    let here = ap (λ z. outcome_of z c.parts-value.result.1) (to_z-of_z w64 c.parts-value.result.0 fits) ∙ c.parts-value.ensures in
    record {
      outcomes = mixed_written outcomes c.loop-place.numbers c.loop-place.marks place _ c.parts-value.result.1 (omega arith) (omega arith) c.loop-place.invariant.outcomes here;
      values = λ h.
          let none = none_by c.parts-value.result.1 (c.is_none-are_values.ensures ∙ ap not (and_second c.loop-place.are_values c.is_none-are_values.result h)) in
          written outcomes c.loop-place.numbers place _ (omega arith) (c.loop-place.invariant.values (and_first c.loop-place.are_values c.is_none-are_values.result h)) (sym here ∙ ap (outcome_of _) none);
    }

pub returns-clause-values : goal.returns-clause-values
returns-clause-values c = grind (arith, common_steps)

pub returns-clause-faults : goal.returns-clause-faults
returns-clause-faults c = grind (arith, common_steps)

pub returns-clause-outcomes : goal.returns-clause-outcomes
returns-clause-outcomes c = grind (arith, common_steps)

pub returns-clause-told : goal.returns-clause-told
returns-clause-told c = grind (arith, common_steps)
