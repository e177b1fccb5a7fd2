-- With the name out of the catalogue and of the cells, the disk can still be closed.
use Rattle.coverage_server.proofs.FreeLemmas.{removed_ready}
use Rattle.coverage_server.proofs.RemovalLemmas.{left_out}
use Rattle.coverage_server.proofs.coverages.Coverages.remove.Goals as goal

pub invariant_of-self : goal.invariant_of-self
invariant_of-self g c =
    let name = c.args.name.now in
    let held = c.self.inside.catalogue in
    let out = left_out c.remove-removed.result name held c.remove-removed.new.self c.remove-removed.ensures.removed c.remove-removed.ensures.absent c.remove-removed.ensures.unchanged in
    removed_ready name held c.remove-removed.new.self c.self.inside.cells c.remove.new.self c.self.invariant out c.remove.ensures
