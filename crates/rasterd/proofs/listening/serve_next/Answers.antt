-- One connection is served, or none.
use Rattle.coverage_server.proofs.ServingLemmas.{Continues-refl}
use Rattle.rasterd.proofs.ServingLemmas.{serves-none}
use Rattle.rasterd.proofs.listening.serve_next.Goals as goal

pub returns-in-Err-clause-served : goal.returns-in-Err-clause-served
returns-in-Err-clause-served g c = serves-none 1 c.args.server.now

pub returns-in-Err-clause-continues : goal.returns-in-Err-clause-continues
returns-in-Err-clause-continues g c = Continues-refl c.args.server.now.coverages
