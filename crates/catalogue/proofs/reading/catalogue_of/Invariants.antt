use Rattle.std.proofs.Common.{◌≡◌, ◌++◌}
use Rattle.std.specs.Vec.Iter.{into_iter_items}
use Rattle.catalogue.proofs.reading.catalogue_of.Given as goal

abbrev pub invariant-loop-signature : goal.invariant-loop-signature
invariant-loop-signature l = l.catalogue ++ into_iter_items l.signature-iterator ≡ l.fn.signatures.items
