use Rattle.std.proofs.Common.{take}
use Rattle.coverage_server.specs.Tiles.{ArePlaces, HaveDomains, store_for}
use Rattle.coverage_server.proofs.cells.places_of.Given as goal

abbrev pub invariant-loop-signature : goal.invariant-loop-signature
invariant-loop-signature g l = record {
  places : ArePlaces (store_for l.job l.coverages) (take l.signature-index l.signatures) l.places.items;
  domains : HaveDomains (take l.signature-index l.signatures);
}
