-- The best value, if there is any.
use Rattle.wcps_mean.specs.Condensers.{values}
use Rattle.tile_kernel.specs.Told.{outcomes}
use Rattle.tile_kernel.proofs.Condensing.{least_unordered}
use Rattle.tile_kernel.proofs.summaries.LeastSummary.outcome.Goals as goal

pub returns : goal.returns
returns c = λ told ordered p h. c.value_or_empty.ensures.least (values (outcomes ordered)) (least_unordered c.args.self.best told ordered p h)
