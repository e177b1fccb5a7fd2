-- A signature stands under a name where a coverage has that name.
use Rattle.catalogue.proofs.Held.{holds}
use Rattle.catalogue.proofs.catalogue.Catalogue.holds.Goals as goal

pub returns : goal.returns
returns c = rw c.contains_key.ensures (holds c.self.invariant c.self.view_is c.as_str.ensures.value)
