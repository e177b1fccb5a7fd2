-- A catalogue without coverages has four bytes.
use Rattle.catalogue.proofs.Held.{held-none}
use Rattle.catalogue.proofs.catalogue.Catalogue.new.Goals as goal

pub invariant_of-result : goal.invariant_of-result
invariant_of-result c = held-none c.new.result.entries c.new.ensures.empty
