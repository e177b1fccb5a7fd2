-- At most as many connections as turns were served.
use Rattle.coverage_server.specs.Leaving.{Continues}
use Rattle.rasterd.specs.Sessions.{ServesUpTo}
use Rattle.rasterd.proofs.listening.serve_each.Given as goal

abbrev pub invariant-loop : goal.invariant-loop
invariant-loop g l = record {
  served : ServesUpTo l.counter l.initial.server l.server;
  continues : Continues l.initial.server.coverages l.server.coverages;
}
