-- The product of two values that fit 32 bits does not wrap.
use Rattle.std.proofs.Common.{◌≡◌, ◌*◌, ◌%◌, ◌^◌, rules, sym, ap, ◌∙◌, SFits, FitsSigned, w64, to_z, of_z}
use Rattle.std.specs.Int.{w32, int_wrapping_mul}
use Rattle.std.proofs.lemmas.Int.{to_z-of_z}
use Rattle.wcps_mean.specs.declared.cell.Outcome.TheVariants.{Value}
use Rattle.tile_kernel.specs.declared.trial.Tried.{Tried}
use Rattle.tile_kernel.proofs.Results.{narrow_product}
use Rattle.tile_kernel.proofs.operations.NarrowProductTrial.tried.Goals as goal

pub returns-then-is_narrow-2 : goal.returns-then-is_narrow-2
returns-then-is_narrow-2 c = λ h.
    let v = to_z w64 ((of_z w64 c.args.x * of_z w64 c.args.y) % 2 ^ 64) in
    let fits : SFits w64 (to_z w64 ((of_z w64 c.args.x * of_z w64 c.args.y) % 2 ^ 64)) = search rules in
    let left : FitsSigned w32 c.args.x = rw (to_z-of_z w64 c.args.x c.ranges.x) at (c.is_narrow.ensures c.if-is_narrow.true) in
    let right : FitsSigned w32 c.args.y = rw (to_z-of_z w64 c.args.y c.ranges.y) at (c.is_narrow-then-is_narrow.ensures c.if-is_narrow-2.true) in
    let wraps : v ≡ int_wrapping_mul w64 c.args.x c.args.y = search rules in
    narrow_product c.args.x c.args.y v c.ranges.x c.ranges.y left right wraps fits ∙ ap (λ (t : Tried). Value t.value) (sym c.sure.ensures)
