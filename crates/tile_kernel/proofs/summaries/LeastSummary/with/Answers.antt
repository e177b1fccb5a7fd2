-- The better one of both.
use Rattle.std.proofs.Common.{ap, sym, ◌∙◌}
use Rattle.wcps_text.specs.declared.operator.Aggregate.TheVariants.{Least}
use Rattle.wcps_mean.specs.Best.{least_of}
use Rattle.tile_kernel.specs.Joins.{best_both}
use Rattle.tile_kernel.proofs.Bests.{least_of-append}
use Rattle.tile_kernel.proofs.summaries.LeastSummary.with.Goals as goal

pub returns-clause-keeps : goal.returns-clause-keeps
returns-clause-keeps c = λ zs ws h g. c.best_of.ensures ∙ ap (λ x. best_both Least x c.args.other.best) h ∙ ap (best_both Least (least_of zs)) g ∙ sym (least_of-append zs ws)
