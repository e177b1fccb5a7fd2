-- Their number.
use Rattle.std.proofs.Common.{arith, ap, ◌∙◌, w64, pos}
use Rattle.std.proofs.lemmas.Int.{to_z_pos}
use Rattle.wcps_mean.specs.declared.cell.Outcome.TheVariants.{Value}
use Rattle.tile_kernel.proofs.Condensing.{trues_unordered}
use Rattle.tile_kernel.proofs.summaries.TruesSummary.outcome.Goals as goal

pub returns : goal.returns
returns c = λ told ordered p h. ap Value (to_z_pos w64 c.args.self.trues (omega arith)) ∙ ap (λ n. Value (pos n)) (trues_unordered c.args.self.trues told ordered p h)
