-- One more place has the exact result, unless some mark so far is negative.
use Rattle.std.proofs.Common.{◌<◌, ◌^◌, rules, arith, SFits, w64, of_z}
use Rattle.tile_kernel.proofs.Signs.{or_left, or_right, below_64}
use Rattle.tile_kernel.proofs.Places.{written}
use Rattle.tile_kernel.proofs.Results.{read_result}
use Rattle.tile_kernel.proofs.loops.try_from.Goals as goal

pub loop-place-preserved : goal.loop-place-preserved
loop-place-preserved g c = λ h.
    let marks : c.loop-place.marks-bits < 2 ^ 64 = omega (arith, c.loop-place.auto.marks-fits) in
    let value : SFits w64 c.tried-tried.result.value = search rules in
    let mark : SFits w64 c.tried-tried.result.mark = search rules in
    let before = or_left c.loop-place.marks-bits (of_z w64 c.tried-tried.result.mark) marks (below_64 _ mark) h in
    let here = or_right c.loop-place.marks-bits c.tried-tried.result.mark marks mark h in
    let left : SFits w64 c.value.result = search rules in
    let right : SFits w64 c.value-in-loop-place.result = search rules in
    written (λ k. g.O.Trial.exact (g.L.Operand.value c.args.left.now k) (g.R.Operand.value c.args.right.now k)) c.loop-place.out c.loop-place.place _ (omega (arith, c.requires.out))
    (c.loop-place.invariant before)
    (read_result g.O.Trial.exact _ _ _ _ _ left right value c.value.ensures c.value-in-loop-place.ensures (c.tried-tried.ensures here))
