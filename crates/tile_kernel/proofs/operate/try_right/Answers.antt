-- Where the right operand is values, a trial that succeeds has written the operation's value at each place.
use Rattle.std.proofs.Common.{refl, ◌∙◌, ap, arith}
use Rattle.wcps_mean.specs.declared.cell.Outcome.TheVariants.{Value}
use Rattle.wcps_mean.specs.Cells.{operate2}
use Rattle.tile_kernel.proofs.Places.{narrow_places, value_there, narrow_there, places_are}
use Rattle.tile_kernel.proofs.operate.try_right.Goals as goal

pub returns-in-Values : goal.returns-in-Values
returns-in-Values g c = λ t k lt.
    ap (operate2 c.args.op (Value (g.L.Operand.value c.args.left.now k))) (value_there _ _ _ _ _ _ _ k c.in-Values.is c.right.view_is c.right.invariant refl (omega arith))
    ∙ c.try_operation.ensures t k lt

pub try_operation-requires-in-Narrow-clause-right : goal.try_operation-requires-in-Narrow-clause-right
try_operation-requires-in-Narrow-clause-right g c =
    let n = places_are _ _ _ _ _ _ c.right.view_is c.right.invariant in
    let room = narrow_places _ _ _ _ _ c.in-Narrow.is c.right.invariant in
    omega (arith, n, room, c.requires.right)

pub returns-in-Narrow : goal.returns-in-Narrow
returns-in-Narrow g c = λ t k lt.
    ap (operate2 c.args.op (Value (g.L.Operand.value c.args.left.now k))) (narrow_there _ _ _ _ _ _ k c.in-Narrow.is c.right.view_is c.right.invariant (omega arith))
    ∙ c.try_operation-in-Narrow.ensures t k lt
