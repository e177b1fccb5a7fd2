-- The column is the operation on each outcome: as values that were tried, or place by place.
use Rattle.std.proofs.Common.{◌≡◌, length, arith}
use Rattle.tile_kernel.proofs.Places.{places_are, operated_one_values, operated_one_mixed}
use Rattle.tile_kernel.proofs.operate_one.operate_wide.Goals as goal

pub returns-then-try_column : goal.returns-then-try_column
returns-then-try_column c =
    let long : length c.try_column.new.out.items ≡ length c.grow.new.list.items = c.try_column.ensures.room.long in
    operated_one_values c.args.op c.args.operand.now _ _ (omega (arith, c.grow.ensures.long, long)) (places_are _ _ _ _ _ _ c.operand.view_is c.operand.invariant) (c.try_column.ensures.value c.if-try_column.true)

pub returns : goal.returns
returns c =
    let long : length c.try_column.new.out.items ≡ length c.grow.new.list.items = c.try_column.ensures.room.long in
    operated_one_mixed c.args.op c.args.operand.now _ _ _ (omega (arith, c.grow.ensures.long, long, c.operate_each_one.ensures.values.long)) (omega (arith, c.grow-2.ensures.long, c.operate_each_one.ensures.faults.long))
    (places_are _ _ _ _ _ _ c.operand.view_is c.operand.invariant) c.operate_each_one.ensures.outcomes

pub try_column-requires : goal.try_column-requires
try_column-requires c =
    let places : c.operand.inside.len ≡ length c.args.operand.now = places_are _ _ _ _ _ _ c.operand.view_is c.operand.invariant in
    omega (arith, places, c.grow.ensures.long)

pub operate_each_one-requires : goal.operate_each_one-requires
operate_each_one-requires c =
    let places : c.operand.inside.len ≡ length c.args.operand.now = places_are _ _ _ _ _ _ c.operand.view_is c.operand.invariant in
    let long : length c.try_column.new.out.items ≡ length c.grow.new.list.items = c.try_column.ensures.room.long in
    record { values = omega (arith, places, c.grow.ensures.long, long); faults = omega (arith, places, c.grow-2.ensures.long) }
