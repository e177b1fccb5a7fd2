-- Where the right operand is values of 32 bits, they are those at its places.
use Rattle.std.proofs.Common.{refl, ap, arith}
use Rattle.std.proofs.lemmas.Grind.{common_steps}
use Rattle.wcps_mean.specs.declared.cell.Outcome.TheVariants.{Value}
use Rattle.wcps_mean.specs.Cells.{operate2}
use Rattle.tile_kernel.proofs.Places.{narrow_there}
use Rattle.tile_kernel.proofs.Narrow.{written_as}
use Rattle.tile_kernel.proofs.operate_narrow.try_narrow_right.Goals as goal

pub returns-in-Narrow : goal.returns-in-Narrow
returns-in-Narrow g c =
    written_as _ _ _ _ _ _ _ refl
    (λ k lt. ap (operate2 c.args.op (Value (g.L.NarrowOperand.value c.args.left.now k))) (narrow_there _ _ _ _ _ _ k c.in-Narrow.is c.right.view_is c.right.invariant (omega (arith, lt, c.requires.right))))
    c.try_narrow_operation.ensures

pub try_narrow_operation-requires-clause-right : goal.try_narrow_operation-requires-clause-right
try_narrow_operation-requires-clause-right g c = grind (arith, common_steps)

pub try_narrow_scalar-requires-clause-few : goal.try_narrow_scalar-requires-clause-few
try_narrow_scalar-requires-clause-few g c = grind (arith, common_steps)
