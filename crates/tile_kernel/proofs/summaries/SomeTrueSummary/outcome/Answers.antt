-- The number of the truth value.
use Rattle.std.proofs.Common.{ap, ◌∙◌}
use Rattle.wcps_mean.specs.Cells.{truth}
use Rattle.tile_kernel.proofs.Condensing.{any_unordered}
use Rattle.tile_kernel.proofs.summaries.SomeTrueSummary.outcome.Goals as goal

pub returns : goal.returns
returns c = λ told ordered p h. c.truth_value.ensures ∙ ap truth (any_unordered c.args.self.some told ordered p h)
