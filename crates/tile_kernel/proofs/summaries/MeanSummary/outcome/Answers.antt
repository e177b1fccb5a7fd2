-- What the running condenser gives.
use Rattle.wcps_text.specs.declared.operator.Aggregate.TheVariants.{Average}
use Rattle.tile_kernel.proofs.Condensing.{summed}
use Rattle.tile_kernel.proofs.summaries.MeanSummary.outcome.Goals as goal

pub returns : goal.returns
returns c = summed Average c.running.result c.finish.result c.args.self.total.sum c.args.self.total.count c.running.ensures.op c.running.ensures.count c.running.ensures.fault c.running.ensures.kept c.finish.ensures
