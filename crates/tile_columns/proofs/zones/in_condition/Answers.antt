-- The condition is the equation, and the body uses none of the places' variables.
use Rattle.std.proofs.Common.{◌∙◌, refl, sym}
use Rattle.tile_columns.proofs.zones.in_condition.Goals as goal

pub returns-in-Some : goal.returns-in-Some
returns-in-Some c = record { condition_is = refl; body_is = refl; sides = c.in-Some.ensures; other_from = sym c.is_from.ensures ∙ c.if-not-is_from.false }
