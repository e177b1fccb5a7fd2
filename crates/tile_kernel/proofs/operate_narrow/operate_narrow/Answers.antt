-- The column is the operation at each place.
use Rattle.std.proofs.Common.{◌≡◌, ◌≤◌, length, refl, arith}
use Rattle.tile_kernel.proofs.Places.{places_are, operated_values}
use Rattle.tile_kernel.proofs.operate_narrow.operate_narrow.Goals as goal

pub invariant_of-out-2 : goal.invariant_of-out-2
invariant_of-out-2 c =
    let n : c.left.inside.len ≡ length c.args.left.now = places_are _ _ _ _ _ _ c.left.view_is c.left.invariant in
    let room : length c.args.left.now ≤ length c.try_narrow.new.out.items = c.if-not-try_narrow.ensures.room refl in
    let kept = c.out.invariant in
    record {
      roomy = record { few = c.left.invariant.few; values = omega (arith, c.grow.ensures.long); faults = omega (arith, c.grow-2.ensures.long); narrow = omega (arith, n, room) };
      covered = tt;
      whole = tt;
      few_values = omega (arith, c.grow.ensures.long, c.left.invariant.few, kept.few_values);
      value_room = omega (arith, c.grow.ensures.room, kept.value_room);
      fault_room = omega (arith, c.grow-2.ensures.room, kept.fault_room);
    }

pub returns : goal.returns
returns c = λ t.
    let n : c.left.inside.len ≡ length c.args.left.now = places_are _ _ _ _ _ _ c.left.view_is c.left.invariant in
    let room : length c.args.left.now ≤ length c.try_narrow.new.out.items = c.if-not-try_narrow.ensures.room refl in
    operated_values c.args.op c.args.left.now c.args.right.now _ _ (omega (arith, n, room)) c.requires n (c.if-not-try_narrow.ensures.values refl)
