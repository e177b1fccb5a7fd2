-- One more position has been looked at.
use Rattle.std.proofs.Common.{◌∙◌, ap, subst, arith, below_more, pos}
use Rattle.wcps_mean.specs.declared.cell.Outcome.TheVariants.{Value}
use Rattle.wcps_mean.specs.Cells.{at_position}
use Rattle.tile_kernel.specs.Columns.{outcome_at}
use Rattle.tile_kernel.proofs.Places.{outcome_there}
use Rattle.tile_columns.specs.Binding.{IsSettled}
use Rattle.tile_columns.proofs.Ranges.{at_same}
use Rattle.tile_columns.proofs.binds.all_lie_in.Goals as goal

pub loop-place-preserved : goal.loop-place-preserved
loop-place-preserved c =
    below_more (λ k. IsSettled c.args.interval.lo c.args.interval.hi (outcome_at c.args.positions.now k)) c.loop-place.place c.loop-place.invariant
    (λ o. ap (λ p. at_position p c.args.interval.lo c.args.interval.hi (λ z. o)) (outcome_there c.args.positions.now c.loop-place.place c.at.result c.at.ensures) ∙ c.is_settled.ensures c.if-not-is_settled.false o)

pub returns : goal.returns
returns c = λ t k d lt.
    subst (IsSettled c.args.interval.lo c.args.interval.hi) (at_same c.args.positions.now k (Value (pos 0)) d lt) (c.loop-place.invariant k (omega arith))
