use Rattle.std.proofs.Common.{take}
use Rattle.std.specs.Prelude.{All}
use Rattle.coverage_server.specs.Named.{AreAmong, IsFoundIn, StayFound}
use Rattle.coverage_server.specs.Views.{signatures_of}
use Rattle.coverage_server.proofs.named.push_names.Given as goal

abbrev pub invariant-loop-name : goal.invariant-loop-name
invariant-loop-name g l =
    AreAmong (signatures_of l.coverages.store) l.signatures.items
    × All (IsFoundIn (signatures_of l.coverages.store) l.signatures.items) (take l.name-index l.names)
    × StayFound (signatures_of l.coverages.store) l.fn.signatures.items l.signatures.items
