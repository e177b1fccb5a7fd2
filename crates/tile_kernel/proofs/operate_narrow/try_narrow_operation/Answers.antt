-- A product is within the product of the operands' bounds.
use Rattle.wcps_mean.specs.Cells.{exact2}
use Rattle.wcps_text.specs.declared.operator.BinaryOperator.TheVariants.{Multiply}
use Rattle.std.proofs.Common.{◌*◌}
use Rattle.tile_kernel.proofs.Narrow.{tried_written, product_within}
use Rattle.tile_kernel.proofs.operate_narrow.try_narrow_operation.Goals as goal

pub returns-in-Some-try_bounded-2 : goal.returns-in-Some-try_bounded-2
returns-in-Some-try_bounded-2 g c =
    let left = g.L.NarrowOperand.value c.args.left.now in
    let right = g.R.NarrowOperand.value c.args.right.now in
    let bounds = c.in-Some-try_bounded-2.bounds in
    let tried = c.in-Some-try_bounded-2.ensures.tried in
    rw c.in-Multiply.is (tried_written c.fit_within-in-Some-try_bounded-2.result c.args.len (exact2 Multiply) left right bounds (bounds.left * bounds.right) _ _ c.in-Some-try_bounded-2.ensures.kept tried c.fit_within-in-Some-try_bounded-2.ensures
    (λ k lt. product_within (left k) (right k) bounds.left bounds.right (tried.left_bound k lt) (tried.right_bound k lt) tried.small_left tried.small_right))
