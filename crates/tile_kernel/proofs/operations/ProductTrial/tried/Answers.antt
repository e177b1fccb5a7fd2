-- A product that has not wrapped is the exact one.
use Rattle.std.proofs.Common.{rules, sym, ap, ◌∙◌, SFits, w64}
use Rattle.std.proofs.lemmas.Int.{to_z-of_z}
use Rattle.wcps_mean.specs.declared.cell.Outcome.TheVariants.{Value}
use Rattle.tile_kernel.specs.declared.trial.Tried.{Tried}
use Rattle.tile_kernel.proofs.Results.{product_result}
use Rattle.tile_kernel.proofs.operations.ProductTrial.tried.Goals as goal

pub returns : goal.returns
returns c = λ h.
    let fits : SFits w64 c.overflowing_mul-value.result.0 = search rules in
    let value = rw (to_z-of_z w64 c.args.x c.ranges.x, to_z-of_z w64 c.args.y c.ranges.y) at c.overflowing_mul-value.ensures.value in
    let within = rw (to_z-of_z w64 c.args.x c.ranges.x, to_z-of_z w64 c.args.y c.ranges.y) at c.overflowing_mul-value.ensures.overflow in
    product_result c.args.x c.args.y _ _ c.ranges.x c.ranges.y value within c.if-wrapped.false fits
    ∙ ap Value (sym (to_z-of_z w64 c.overflowing_mul-value.result.0 fits)) ∙ ap (λ (t : Tried). Value t.value) (sym c.sure.ensures)
