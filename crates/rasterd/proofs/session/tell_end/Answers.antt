-- The line of the fault.
use Rattle.rasterd.proofs.StatusLemmas.{says-fault}
use Rattle.rasterd.proofs.session.tell_end.Goals as goal

pub returns-in-Err-clause-line : goal.returns-in-Err-clause-line
returns-in-Err-clause-line g c = says-fault _ _ (g.E.Sink.view c.args.errors.now) (g.E.Sink.view c.tell_fault.new.errors) c.in-Err.is c.tell_fault.ensures.line
