-- One more value was written where it fits 32 bits, and the bounds are those of one more place.
use Rattle.std.proofs.Common.{◌+◌, arith, rules, subst, sym, SFits}
use Rattle.std.specs.Int.{w32}
use Rattle.tile_kernel.specs.Columns.{exact_at}
use Rattle.tile_kernel.specs.Narrow.{IsBound}
use Rattle.tile_kernel.proofs.Narrow.{bound_more, narrow_read, tried_more}
use Rattle.tile_kernel.proofs.narrow_loops.write_bounded.Goals as goal

pub loop-place-preserved : goal.loop-place-preserved
loop-place-preserved g c =
    let place = c.loop-place.place in
    let left = g.L.NarrowOperand.value c.args.left.now in
    let right = g.R.NarrowOperand.value c.args.right.now in
    let x : SFits w32 c.value-x.result = search rules in
    let y : SFits w32 c.value-y.result = search rules in
    let value : SFits w32 c.narrow.result = search rules in
    let more_left = bound_more place left c.loop-place.most_left c.unsigned_abs.result c.value-x.result c.loop-place.invariant.left_bound x c.value-x.ensures c.unsigned_abs.ensures.value in
    let more_right = bound_more place right c.loop-place.most_right c.unsigned_abs-in-loop-place.result c.value-y.result c.loop-place.invariant.right_bound y c.value-y.ensures c.unsigned_abs-in-loop-place.ensures.value in
    record {
      values = tried_more (exact_at g.O.Trial.exact left right) c.loop-place.out place _ (omega (arith, c.requires.out)) c.loop-place.invariant.values
          (narrow_read g.O.Trial.exact _ _ _ _ _ x y value c.value-x.ensures c.value-y.ensures c.narrow.ensures);
      left_bound = subst (IsBound (place + 1) left) (sym c.max-most_left.ensures) more_left;
      right_bound = subst (IsBound (place + 1) right) (sym c.max-most_right.ensures) more_right;
      small_left = search rules;
      small_right = search rules;
    }
