-- A refusal changes nothing.
use Rattle.std.proofs.Common.{refl}
use Rattle.coverage_server.proofs.FreeLemmas.{unchanged, none_changed}
use Rattle.coverage_server.proofs.requests.delete.Goals as goal

pub returns-in_default-clause-unchanged : goal.returns-in_default-clause-unchanged
returns-in_default-clause-unchanged g c = unchanged c.args.coverages.now c.args.coverages.now refl

pub returns-in_err-reply-clause-unchanged : goal.returns-in_err-reply-clause-unchanged
returns-in_err-reply-clause-unchanged g c = none_changed _ c.args.coverages.now c.args.coverages.now refl
