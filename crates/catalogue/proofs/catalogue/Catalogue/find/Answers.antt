-- What stands under a name is the signature with that name.
use Rattle.std.proofs.Common.{◌∙◌, refl}
use Rattle.catalogue.proofs.Held.{look-up}
use Rattle.catalogue.proofs.catalogue.Catalogue.find.Goals as goal

pub returns : goal.returns
returns c = c.get.ensures.value ∙ look-up c.self.invariant c.self.view_is refl
