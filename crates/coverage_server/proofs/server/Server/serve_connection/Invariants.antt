use Rattle.std.proofs.Common.{◌≡◌, ◌<◌, ◌-◌, false}
use Rattle.coverage_server.specs.Leaving.{Continues}
use Rattle.coverage_server.specs.Represents.{Refines}
use Rattle.coverage_server.proofs.ServingLemmas.{Serving}
use Rattle.coverage_server.proofs.server.Server.serve_connection.Given as goal

abbrev pub invariant-serving : goal.invariant-serving
invariant-serving g l = record {
  going : l.connection.over ≡ false;
  few : l.connection.count < 1000;
  served : Refines (λ s t. Serving (g.R.Source.view l.initial.reader) (g.R.Source.view l.reader) (g.W.Sink.view l.initial.writer)
      (g.W.Sink.view l.writer) s t l.connection.buffer l.connection.count) l.initial.self l.self;
  read : (g.R.Source.view l.reader).failures ≡ (g.R.Source.view l.initial.reader).failures;
  written : (g.W.Sink.view l.writer).failures ≡ (g.W.Sink.view l.initial.writer).failures;
  continues : Continues l.initial.self.coverages l.self.coverages;
}

abbrev pub decreases-serving : goal.decreases-serving
decreases-serving g l = 1000 - l.connection.count
