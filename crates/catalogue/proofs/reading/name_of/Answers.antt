use Rattle.std.proofs.Common.{arith}
use Rattle.catalogue.proofs.Names.{name_utf8}
use Rattle.catalogue.proofs.reading.name_of.Goals as goal

pub returns-in_default-clause-damaged : goal.returns-in_default-clause-damaged
returns-in_default-clause-damaged c = grind (arith, name_utf8)
