use Rattle.std.proofs.Common.{◌≡◌, ◌++◌}
use Rattle.catalogue.proofs.catalogue.Catalogue.list.Given as goal

abbrev pub invariant-loop-signature : goal.invariant-loop-signature
invariant-loop-signature l = l.list.items ++ l.signature-iterator ≡ l.self
