-- Each connection is served from the store that the one before left.
use Rattle.std.proofs.Common.{◌<◌, ◌∙◌, length, sym, subst, arith}
use Rattle.std.specs.Prelude.{IsTrue}
use Rattle.std.proofs.lemmas.List.{length-set}
use Rattle.coverage_server.proofs.ServingLemmas.{Continues-trans}
use Rattle.coverage_server.proofs.SessionLemmas.{served-more, rest_kept}
use Rattle.coverage_server.proofs.session.serve_all.Goals as goal

pub loop-connection-preserved : goal.loop-connection-preserved
loop-connection-preserved g c =
    let v = c.loop-connection.invariant in
    let i = c.loop-connection.connection-index in
    let inside : i < length c.loop-connection.connections = omega arith in
    let first : i < length c.args.connections.now = omega (arith, inside, v.count) in
    record {
      served = λ sure s r.
          let before = v.served sure s r in
          let after = c.serve_connection-end.ensures.served (subst IsTrue (sym v.continues.honest) sure) before.0 before.1 in (
            after.0,
            after.1,
            served-more g.R.Source.view g.W.Sink.view c.args.connections.now c.loop-connection.connections i
                c.connection-item.result (c.serve_connection-end.new.reader, c.serve_connection-end.new.writer) s
                before.0 after.0 _ v.count first v.rest before.2
                c.serve_connection-end.ensures.told after.2,
          );
      rest = rest_kept c.args.connections.now c.loop-connection.connections i (c.serve_connection-end.new.reader, c.serve_connection-end.new.writer) v.rest;
      count = length-set c.loop-connection.connections i _ ∙ v.count;
      continues = Continues-trans _ _ _ v.continues c.serve_connection-end.ensures.continues;
    }
