-- One more place, and in the end all of them.
use Rattle.std.proofs.Common.{sym, subst, arith, pos, below_more}
use Rattle.wcps_mean.specs.declared.cell.Outcome.TheVariants.{Value}
use Rattle.tile_kernel.specs.Columns.{outcome_at}
use Rattle.tile_kernel.proofs.Places.{outcome_there, other_default}
use Rattle.tile_columns.specs.Shapes.{IsZero}
use Rattle.tile_columns.proofs.shapes.are_zeros.Goals as goal

pub loop-k-preserved : goal.loop-k-preserved
loop-k-preserved c =
    below_more (λ k. IsZero (outcome_at c.args.column.now k)) c.loop-k.k c.loop-k.invariant
    (subst (λ o. IsZero o) (sym (outcome_there c.args.column.now c.loop-k.k c.at.result c.at.ensures)) (c.is_zero.ensures c.if-not-is_zero.false))

pub returns : goal.returns
returns c = λ h k d lt.
    subst (λ o. IsZero o) (sym (other_default c.args.column.now k d (Value (pos 0)) lt))
    (c.loop-k.invariant k (omega (arith, lt, c.loop-k-test.false, c.len-k-end.ensures.places)))
