-- Of one factor.
use Rattle.std.proofs.Common.{[], ◌∷◌, subst, w64}
use Rattle.std.proofs.lemmas.Int.{to_z-of_z}
use Rattle.wcps_mean.specs.Products.{StandsFor}
use Rattle.tile_kernel.proofs.summaries.FactorsSummary.of.Goals as goal

pub returns-clause-keeps : goal.returns-clause-keeps
returns-clause-keeps c = subst (λ z. StandsFor c.times.result (z ∷ [])) (to_z-of_z w64 c.args.x c.ranges.x) (c.times.ensures [] c.new.ensures)
