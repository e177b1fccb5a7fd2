-- A session has status 3 exactly where its store was not opened.
use Rattle.std.proofs.Common.{◌∙◌, sym}
use Rattle.rasterd.proofs.StatusLemmas.{status-unopened, unopened-status}
use Rattle.rasterd.proofs.session.session_end.Goals as goal

pub returns-clause-no_store : goal.returns-clause-no_store
returns-clause-no_store g c =
    λ honest none. c.tell_end-status.ensures.status ∙ status-unopened c.serve_session-end.result (c.serve_session-end.ensures.no_store honest none)

pub returns-clause-untouched : goal.returns-clause-untouched
returns-clause-untouched g c =
    λ e. c.serve_session-end.ensures.untouched (unopened-status c.serve_session-end.result (sym c.tell_end-status.ensures.status ∙ e))
