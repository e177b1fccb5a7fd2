-- One more factor is in the product: as a zero, or else by its sign and its magnitude.
use Rattle.std.proofs.Common.{refl, ap, ◌∙◌, ◌*◌, arith, nat_abs, w64, of_z}
use Rattle.std.proofs.lemmas.Int.{ints, to_z-of_z}
use Rattle.wcps_mean.specs.Cells.{differ}
use Rattle.wcps_mean.specs.Magnitudes.{cap, is_negative}
use Rattle.wcps_mean.proofs.Factors.{stands_zero, stands_more}
use Rattle.wcps_mean.proofs.product.Product.times.Goals as goal

pub returns-then-x-eq0 : goal.returns-then-x-eq0
returns-then-x-eq0 c = λ zs h. stands_zero c.args.self _ zs c.args.x (omega (arith, ints)) refl refl refl h

pub returns : goal.returns
returns c = λ zs h.
    let same = to_z-of_z w64 c.args.x c.ranges.x in
    stands_more c.args.self _ zs c.args.x (λ e. c.if-x-eq0.false (ap (of_z w64) e)) refl
    (c.are_unlike-negative.ensures ∙ ap (differ c.args.self.negative) (c.is_below_zero.ensures ∙ ap is_negative same))
    (c.capped-magnitude.ensures.value ∙ ap (λ n. cap (c.args.self.magnitude * n)) (c.unsigned_abs.ensures.value ∙ ap nat_abs same)) h
