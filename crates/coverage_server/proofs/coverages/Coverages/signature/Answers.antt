-- The catalogue has the signature of the store's coverage with the name, or neither has the name.
use Rattle.coverage_server.proofs.WriteLemmas.{finds}
use Rattle.coverage_server.proofs.coverages.Coverages.signature.Goals as goal

pub returns : goal.returns
returns g c = rw (← c.self.view_is) (finds c.args.name.now c.self.inside.cells.coverages c.self.inside.catalogue c.describe.result c.self.invariant.signatures c.describe.ensures)
