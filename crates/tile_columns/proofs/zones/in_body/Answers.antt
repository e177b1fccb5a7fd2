-- The body is the equation, and what is true at each point uses no variable.
use Rattle.std.proofs.Common.{refl}
use Rattle.tile_columns.proofs.zones.in_body.Goals as goal

pub returns-in-Some : goal.returns-in-Some
returns-in-Some c = record { condition_is = refl; body_is = refl; sides = c.in-Some.ensures; other_from = refl }
