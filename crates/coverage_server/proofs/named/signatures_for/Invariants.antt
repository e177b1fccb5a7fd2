use Rattle.std.proofs.Common.{take}
use Rattle.std.specs.Prelude.{All}
use Rattle.coverage_server.specs.Named.{AreAmong}
use Rattle.coverage_server.specs.Views.{signatures_of}
use Rattle.coverage_server.proofs.QueriedLemmas.{FindsNames}
use Rattle.coverage_server.proofs.named.signatures_for.Given as goal

abbrev pub invariant-loop-binding : goal.invariant-loop-binding
invariant-loop-binding g l =
    AreAmong (signatures_of l.coverages.store) l.signatures.items
    × All (FindsNames (signatures_of l.coverages.store) l.signatures.items) (take l.binding-index l.binding-items)
