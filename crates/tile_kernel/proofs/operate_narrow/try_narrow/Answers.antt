-- Where the left operand is values of 32 bits, they are those at its places.
use Rattle.std.proofs.Common.{◌≡◌, length, sym, ap}
use Rattle.wcps_mean.specs.Cells.{operate2}
use Rattle.tile_kernel.specs.Columns.{outcome_at}
use Rattle.tile_kernel.proofs.Places.{places_are, narrow_there}
use Rattle.tile_kernel.proofs.Narrow.{written_as}
use Rattle.tile_kernel.proofs.operate_narrow.try_narrow.Goals as goal

pub returns-in-Narrow : goal.returns-in-Narrow
returns-in-Narrow c =
    let n : c.left.inside.len ≡ length c.args.left.now = places_are _ _ _ _ _ _ c.left.view_is c.left.invariant in
    written_as _ _ _ _ _ _ _ (sym n)
    (λ k lt. ap (λ o. operate2 c.args.op o (outcome_at c.args.right.now k)) (narrow_there _ _ _ _ _ _ k c.in-Narrow.is c.left.view_is c.left.invariant lt))
    c.try_narrow_right.ensures
