-- The write failed too, or took nothing, behind those that were interrupted.
use Rattle.std.proofs.Common.{◌-◌, arith}
use Rattle.std.specs.contracts.io.Error.{the_row}
use Rattle.rasterd.proofs.ResumingLemmas.{failed_once_more, took_nothing}
use Rattle.rasterd.proofs.resumed.write_again.Goals as goal

pub returns-in-Ok-clause-nothing : goal.returns-in-Ok-clause-nothing
returns-in-Ok-clause-nothing g c =
    took_nothing the_row.Denot _ _ _ (1000 - c.writing.left) c.in-Ok.count c.args.bytes.now (omega (arith, c.writing-test.true)) c.writing.invariant.3 c.in-Ok.ensures.told

pub returns-then-not-is_interrupted-clause-fault : goal.returns-then-not-is_interrupted-clause-fault
returns-then-not-is_interrupted-clause-fault g c =
    failed_once_more _ _ _ (1000 - c.writing.left) (omega (arith, c.writing-test.true)) c.writing.invariant.3 c.in-Err.ensures.told
