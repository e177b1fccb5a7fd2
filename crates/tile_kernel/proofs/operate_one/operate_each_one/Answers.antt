-- One more place has the value and the fault of the operation on its operand.
use Rattle.std.proofs.Common.{◌≡◌, ◌∙◌, ap, sym, arith, SFits, w64, rules}
use Rattle.std.proofs.lemmas.Int.{to_z-of_z}
use Rattle.std.proofs.lemmas.Grind.{common_steps}
use Rattle.wcps_mean.specs.Cells.{operate1}
use Rattle.tile_kernel.specs.Columns.{outcome_of, outcome_at}
use Rattle.tile_kernel.proofs.Places.{outcome_there, mixed_written}
use Rattle.tile_kernel.proofs.operate_one.operate_each_one.Goals as goal

pub loop-place-preserved : goal.loop-place-preserved
loop-place-preserved c =
    let fits : SFits w64 c.parts-value.result.0 = search rules in
    let place = c.loop-place.place in
    let operand : outcome_at c.args.operand.now place ≡ c.at.result = outcome_there c.args.operand.now place c.at.result c.at.ensures in
    mixed_written (λ k. operate1 c.args.op (outcome_at c.args.operand.now k)) c.loop-place.numbers c.loop-place.marks place _ c.parts-value.result.1 (omega arith) (omega arith) c.loop-place.invariant
    (ap (λ z. outcome_of z c.parts-value.result.1) (to_z-of_z w64 c.parts-value.result.0 fits) ∙ c.parts-value.ensures ∙ c.operate.ensures ∙ ap (operate1 c.args.op) (sym operand))

pub returns-clause-values : goal.returns-clause-values
returns-clause-values c = grind (arith, common_steps)

pub returns-clause-faults : goal.returns-clause-faults
returns-clause-faults c = grind (arith, common_steps)

pub returns-clause-outcomes : goal.returns-clause-outcomes
returns-clause-outcomes c = grind (arith, common_steps)
