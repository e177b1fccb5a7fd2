-- The column is the operation on each outcome.
use Rattle.std.proofs.Common.{◌≡◌, ◌≤◌, length, refl, arith}
use Rattle.tile_kernel.proofs.Places.{places_are, operated_one_values}
use Rattle.tile_kernel.proofs.operate_narrow_one.operate_narrow_one.Goals as goal

pub invariant_of-out-2 : goal.invariant_of-out-2
invariant_of-out-2 c =
    let n : c.operand.inside.len ≡ length c.args.operand.now = places_are _ _ _ _ _ _ c.operand.view_is c.operand.invariant in
    let room : length c.args.operand.now ≤ length c.try_narrow_column.new.out.items = c.if-not-try_narrow_column.ensures.room refl in
    let kept = c.out.invariant in
    record {
      roomy = record { few = c.operand.invariant.few; values = omega (arith, c.grow.ensures.long); faults = omega (arith, c.grow-2.ensures.long); narrow = omega (arith, n, room) };
      covered = tt;
      whole = tt;
      few_values = omega (arith, c.grow.ensures.long, c.operand.invariant.few, kept.few_values);
      value_room = omega (arith, c.grow.ensures.room, kept.value_room);
      fault_room = omega (arith, c.grow-2.ensures.room, kept.fault_room);
    }

pub returns : goal.returns
returns c = λ t.
    let n : c.operand.inside.len ≡ length c.args.operand.now = places_are _ _ _ _ _ _ c.operand.view_is c.operand.invariant in
    let room : length c.args.operand.now ≤ length c.try_narrow_column.new.out.items = c.if-not-try_narrow_column.ensures.room refl in
    operated_one_values c.args.op c.args.operand.now _ _ (omega (arith, n, room)) n (c.if-not-try_narrow_column.ensures.values refl)
