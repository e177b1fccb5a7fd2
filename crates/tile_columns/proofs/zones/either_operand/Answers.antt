-- The equation is the operand that has sides, and the other one stands beside it.
use Rattle.std.proofs.Common.{refl}
use Rattle.tile_columns.proofs.zones.either_operand.Goals as goal

pub returns-in-Some : goal.returns-in-Some
returns-in-Some c = record { condition_is = refl; body_is = refl; sides = c.in-Some.ensures.sides; other_from = c.in-Some.ensures.other }

pub returns-in-Some-sides_beside : goal.returns-in-Some-sides_beside
returns-in-Some-sides_beside c = record { condition_is = refl; body_is = refl; sides = c.in-Some-sides_beside.ensures.sides; other_from = c.in-Some-sides_beside.ensures.other }
