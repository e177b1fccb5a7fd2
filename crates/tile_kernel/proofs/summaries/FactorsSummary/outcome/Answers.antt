-- The exact product, tested.
use Rattle.wcps_mean.specs.Condensers.{values}
use Rattle.tile_kernel.specs.Told.{outcomes}
use Rattle.tile_kernel.proofs.Condensing.{factors_unordered}
use Rattle.tile_kernel.proofs.summaries.FactorsSummary.outcome.Goals as goal

pub returns : goal.returns
returns c = λ told ordered p h. c.finish.ensures (values (outcomes ordered)) (factors_unordered c.args.self.product told ordered p h)
