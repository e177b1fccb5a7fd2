-- The session, with its status and its line.
use Rattle.std.proofs.Common.{◌∙◌, refl}
use Rattle.rasterd.specs.Sessions.{disk_back}
use Rattle.rasterd.proofs.StatusLemmas.{status-unopened}
use Rattle.rasterd.proofs.listening.serve_listener.Goals as goal

pub returns-clause-end : goal.returns-clause-end
returns-clause-end g c =
    let session = c.serve_clients-end.ensures.session in (
      session.0,
      session.1,
      disk_back c.serve_clients-end.result,
      record {
        end = c.serve_clients-end.result;
        session = session.2;
        status = c.tell_end.ensures.status;
        back = refl;
        line = c.tell_end.ensures.line;
      },
    )

pub returns-clause-no_store : goal.returns-clause-no_store
returns-clause-no_store g c =
    λ honest none. c.tell_end.ensures.status ∙ status-unopened c.serve_clients-end.result (c.serve_clients-end.ensures.no_store honest none)
