-- A line tells the number of the fault.
use Rattle.rasterd.proofs.StatusLemmas.{says-unopened, says-unclosed}
use Rattle.rasterd.proofs.session.tell_fault.Goals as goal

pub returns-in-NotOpened-clause-line : goal.returns-in-NotOpened-clause-line
returns-in-NotOpened-clause-line g c =
    let line = rw c.refusal.ensures at c.not_opened.ensures.says in
    says-unopened _ _ _ (g.E.Sink.view c.args.errors.now) (g.E.Sink.view c.not_opened.new.errors) c.in-NotOpened.is line

pub returns-in-NotClosed-clause-line : goal.returns-in-NotClosed-clause-line
returns-in-NotClosed-clause-line g c =
    let line = rw c.refusal-in-NotClosed.ensures at c.not_closed.ensures.says in
    says-unclosed _ _ _ (g.E.Sink.view c.args.errors.now) (g.E.Sink.view c.not_closed.new.errors) c.in-NotClosed.is line
