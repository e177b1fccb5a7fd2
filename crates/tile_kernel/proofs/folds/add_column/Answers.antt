-- What is lent are the outcomes of the column.
use Rattle.std.proofs.Common.{subst, List, [], ◌∷◌}
use Rattle.wcps_mean.specs.declared.cell.Outcome.{Outcome}
use Rattle.tile_kernel.specs.Columns.{outcome_at}
use Rattle.tile_kernel.specs.Standing.{EachTakesIn}
use Rattle.tile_kernel.proofs.folds.add_column.Goals as goal

pub returns-in-Each-clause-stands : goal.returns-in-Each-clause-stands
returns-in-Each-clause-stands c = subst (λ (l : List Outcome). EachTakesIn c.args.folds.now c.add_view.new.folds (λ k. (c.args.place, outcome_at l k) ∷ [])) c.in-Each.ensures.value c.add_view.ensures.stands

pub returns-in-Runs-clause-stands : goal.returns-in-Runs-clause-stands
returns-in-Runs-clause-stands c = subst (λ (l : List Outcome). EachTakesIn c.args.folds.now c.add_runs.new.folds (λ k. (c.args.place, outcome_at l k) ∷ [])) c.in-Runs.ensures.value c.add_runs.ensures.stands
