-- Of the values of both.
use Rattle.std.proofs.Common.{◌&&◌, ap, sym, ◌∙◌}
use Rattle.wcps_mean.specs.Condensers.{every}
use Rattle.tile_kernel.proofs.Merges.{every-append}
use Rattle.tile_kernel.proofs.summaries.AllTrueSummary.with.Goals as goal

pub returns-clause-keeps : goal.returns-clause-keeps
returns-clause-keeps c = λ zs ws h g. c.both.ensures ∙ ap (λ b. b && c.args.other.all) h ∙ ap (λ b. every zs && b) g ∙ sym (every-append zs ws)
