-- What the running condenser gives.
use Rattle.wcps_text.specs.declared.operator.Aggregate.TheVariants.{Sum}
use Rattle.tile_kernel.proofs.Condensing.{summed}
use Rattle.tile_kernel.proofs.summaries.TotalSummary.outcome.Goals as goal

pub returns : goal.returns
returns c = summed Sum c.running.result c.finish.result c.args.self.sum c.args.self.count c.running.ensures.op c.running.ensures.count c.running.ensures.fault c.running.ensures.kept c.finish.ensures
