-- Indexes are damaged where one lists a tile past those of the domain.
use Rattle.std.proofs.Common.{rules}
use Rattle.std.proofs.lemmas.Bool.{iff_false}
use Rattle.raster_store.proofs.held.Held.listed.Goals as goal

pub returns-then-not-are_below-clause-why : goal.returns-then-not-are_below-clause-why
returns-then-not-are_below-clause-why c = record {
  for_damage = λ e below. iff_false c.are_below.ensures.below (search rules) (rw (c.deref.ensures.value, c.in_ok-fields.ensures, c.in_ok-signature.ensures) below);
  for_room = λ e. absurd (cc);
}
