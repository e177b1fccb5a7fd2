-- Where memory is wanting nothing was written.
use Rattle.std.proofs.Common.{arith, refl}
use Rattle.coverage_server.proofs.FreeLemmas.{unchanged}
use Rattle.coverage_server.proofs.closing.write_closed.Goals as goal

pub returns-in_err-metadata-clause-unchanged : goal.returns-in_err-metadata-clause-unchanged
returns-in_err-metadata-clause-unchanged g c = unchanged c.args.coverages.now c.args.coverages.now refl

pub returns-in_err-metadata-clause-grows : goal.returns-in_err-metadata-clause-grows
returns-in_err-metadata-clause-grows g c = λ sure. omega arith
