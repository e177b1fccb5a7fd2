-- Where all positions lie in the interval nothing changes.
use Rattle.std.proofs.Common.{pos}
use Rattle.wcps_mean.specs.declared.cell.Outcome.TheVariants.{Value}
use Rattle.tile_columns.proofs.Bindings.{all_settled}
use Rattle.tile_columns.proofs.binds.settle.Goals as goal

pub returns-then-all_lie_in : goal.returns-then-all_lie_in
returns-then-all_lie_in c = all_settled c.args.positions.now c.args.out.now c.args.interval.lo c.args.interval.hi c.requires (λ k lt. c.all_lie_in.ensures c.if-all_lie_in.true k (Value (pos 0)) lt)
