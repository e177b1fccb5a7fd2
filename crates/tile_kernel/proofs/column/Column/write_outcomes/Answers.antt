-- A column of values and faults is the outcomes that they stand for, and one without a fault is its values.
use Rattle.std.proofs.Common.{arith}
use Rattle.tile_kernel.proofs.Places.{outcomes_written, values_written}
use Rattle.tile_kernel.proofs.column.Column.write_outcomes.Goals as goal

pub returns : goal.returns
returns c =
    outcomes_written c.args.outcomes.now _ _ (omega (arith, c.grow.ensures.long, c.copy_outcomes.ensures.values.long)) (omega (arith, c.grow-2.ensures.long, c.copy_outcomes.ensures.faults.long)) c.copy_outcomes.ensures.outcomes

pub returns-then-copy_outcomes : goal.returns-then-copy_outcomes
returns-then-copy_outcomes c =
    values_written c.args.outcomes.now _ (omega (arith, c.grow.ensures.long, c.copy_outcomes.ensures.values.long)) (c.copy_outcomes.ensures.told c.if-copy_outcomes.true)
