-- The outcomes that were spread are those of the runs.
use Rattle.std.proofs.Common.{subst, List, [], ◌∷◌}
use Rattle.wcps_mean.specs.declared.cell.Outcome.{Outcome}
use Rattle.tile_kernel.specs.Columns.{outcome_at}
use Rattle.tile_kernel.specs.Standing.{EachTakesIn}
use Rattle.tile_kernel.proofs.folds.add_runs.Goals as goal

pub returns-clause-stands : goal.returns-clause-stands
returns-clause-stands c = subst (λ (l : List Outcome). EachTakesIn c.args.folds.now c.add_view.new.folds (λ k. (c.args.place, outcome_at l k) ∷ [])) c.spread.ensures c.add_view.ensures.stands
