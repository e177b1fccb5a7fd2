use Rattle.std.proofs.Common.{◌≡◌, length, take, drop}
use Rattle.coverage_server.specs.Leaving.{Continues}
use Rattle.coverage_server.specs.Sessions.{AreServed, ends_all}
use Rattle.coverage_server.proofs.session.serve_all.Given as goal

abbrev pub invariant-loop-connection : goal.invariant-loop-connection
invariant-loop-connection g l = record {
  served : AreServed
      (ends_all g.R.Source.view g.W.Sink.view (take l.connection-index l.initial.connections) (take l.connection-index l.connections))
      l.initial.server l.server;
  rest : drop l.connection-index l.connections ≡ drop l.connection-index l.initial.connections;
  count : length l.connections ≡ length l.initial.connections;
  continues : Continues l.initial.server.coverages l.server.coverages;
}
