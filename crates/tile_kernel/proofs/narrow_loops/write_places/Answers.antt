-- One more value is that of the operation, since it fits 32 bits.
use Rattle.std.proofs.Common.{arith, rules, SFits}
use Rattle.std.specs.Int.{w32}
use Rattle.tile_kernel.specs.Columns.{exact_at}
use Rattle.tile_kernel.proofs.Places.{written}
use Rattle.tile_kernel.proofs.Narrow.{narrow_result}
use Rattle.tile_kernel.proofs.narrow_loops.write_places.Goals as goal

pub loop-place-preserved : goal.loop-place-preserved
loop-place-preserved g c =
    let left : SFits w32 c.value.result = search rules in
    let right : SFits w32 c.value-in-loop-place.result = search rules in
    let value : SFits w32 c.narrow.result = search rules in
    written (exact_at g.O.Trial.exact (g.L.NarrowOperand.value c.args.left.now) (g.R.NarrowOperand.value c.args.right.now)) c.loop-place.out c.loop-place.place _ (omega (arith, c.requires.out)) c.loop-place.invariant
    (narrow_result g.O.Trial.exact _ _ _ _ _ left right value c.value.ensures c.value-in-loop-place.ensures c.narrow.ensures (c.requires.narrow c.loop-place.place (omega arith)))
