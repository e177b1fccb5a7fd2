-- The better one of both.
use Rattle.std.proofs.Common.{ap, sym, ◌∙◌}
use Rattle.wcps_text.specs.declared.operator.Aggregate.TheVariants.{Greatest}
use Rattle.wcps_mean.specs.Best.{greatest_of}
use Rattle.tile_kernel.specs.Joins.{best_both}
use Rattle.tile_kernel.proofs.Bests.{greatest_of-append}
use Rattle.tile_kernel.proofs.summaries.GreatestSummary.with.Goals as goal

pub returns-clause-keeps : goal.returns-clause-keeps
returns-clause-keeps c = λ zs ws h g. c.best_of.ensures ∙ ap (λ x. best_both Greatest x c.args.other.best) h ∙ ap (best_both Greatest (greatest_of zs)) g ∙ sym (greatest_of-append zs ws)
