-- Of the values of both.
use Rattle.std.proofs.Common.{◌||◌, ap, sym, ◌∙◌}
use Rattle.wcps_mean.specs.Condensers.{any}
use Rattle.tile_kernel.proofs.Merges.{any-append}
use Rattle.tile_kernel.proofs.summaries.SomeTrueSummary.with.Goals as goal

pub returns-clause-keeps : goal.returns-clause-keeps
returns-clause-keeps c = λ zs ws h g. c.either.ensures ∙ ap (λ b. b || c.args.other.some) h ∙ ap (λ b. any zs || b) g ∙ sym (any-append zs ws)
