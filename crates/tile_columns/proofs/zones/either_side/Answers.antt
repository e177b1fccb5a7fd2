-- The sides are the operands, the one or the other way round.
use Rattle.std.proofs.Common.{refl}
use Rattle.tile_columns.proofs.zones.either_side.Goals as goal

pub returns-then-are_sides : goal.returns-then-are_sides
returns-then-are_sides c = record { is = refl; own_from = c.are_sides.ensures.own c.if-are_sides.true; key_below = c.are_sides.ensures.key c.if-are_sides.true }

pub returns-then-are_sides-2 : goal.returns-then-are_sides-2
returns-then-are_sides-2 c = record { is = refl; own_from = c.are_sides-2.ensures.own c.if-are_sides-2.true; key_below = c.are_sides-2.ensures.key c.if-are_sides-2.true }
