-- The column is the operation at each place: as values that were tried, or place by place.
use Rattle.std.proofs.Common.{◌≡◌, length, arith}
use Rattle.tile_kernel.proofs.Places.{places_are, operated_values, operated_mixed}
use Rattle.tile_kernel.proofs.operate.operate_wide.Goals as goal

pub returns-then-try_columns : goal.returns-then-try_columns
returns-then-try_columns c =
    let long : length c.try_columns.new.out.items ≡ length c.grow.new.list.items = c.try_columns.ensures.room.long in
    operated_values c.args.op c.args.left.now c.args.right.now _ _ (omega (arith, c.grow.ensures.long, long)) c.requires (places_are _ _ _ _ _ _ c.left.view_is c.left.invariant) (c.try_columns.ensures.value c.if-try_columns.true)

pub returns : goal.returns
returns c =
    let long : length c.try_columns.new.out.items ≡ length c.grow.new.list.items = c.try_columns.ensures.room.long in
    operated_mixed c.args.op c.args.left.now c.args.right.now _ _ _ (omega (arith, c.grow.ensures.long, long, c.operate_each.ensures.values.long)) (omega (arith, c.grow-2.ensures.long, c.operate_each.ensures.faults.long))
    c.requires (places_are _ _ _ _ _ _ c.left.view_is c.left.invariant) c.operate_each.ensures.outcomes

pub try_columns-requires-clause-room : goal.try_columns-requires-clause-room
try_columns-requires-clause-room c =
    let places : c.left.inside.len ≡ length c.args.left.now = places_are _ _ _ _ _ _ c.left.view_is c.left.invariant in
    omega (arith, places, c.grow.ensures.long)

pub operate_each-requires-clause-values : goal.operate_each-requires-clause-values
operate_each-requires-clause-values c =
    let places : c.left.inside.len ≡ length c.args.left.now = places_are _ _ _ _ _ _ c.left.view_is c.left.invariant in
    let long : length c.try_columns.new.out.items ≡ length c.grow.new.list.items = c.try_columns.ensures.room.long in
    omega (arith, places, c.grow.ensures.long, long)

pub operate_each-requires-clause-faults : goal.operate_each-requires-clause-faults
operate_each-requires-clause-faults c =
    let places : c.left.inside.len ≡ length c.args.left.now = places_are _ _ _ _ _ _ c.left.view_is c.left.invariant in
    omega (arith, places, c.grow-2.ensures.long)
