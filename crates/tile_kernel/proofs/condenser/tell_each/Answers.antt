-- What is lent are the outcomes of the column.
use Rattle.std.proofs.Common.{subst, List, [], ◌∷◌}
use Rattle.wcps_mean.specs.declared.cell.Outcome.{Outcome}
use Rattle.tile_kernel.specs.Columns.{outcome_at}
use Rattle.tile_kernel.specs.Condensing.{EachIsTold}
use Rattle.tile_kernel.proofs.condenser.tell_each.Goals as goal

pub returns-in-Runs-clause-stands : goal.returns-in-Runs-clause-stands
returns-in-Runs-clause-stands g c = subst (λ (l : List Outcome). EachIsTold g.C.Condenser.stands c.args.condensers.now c.tell_runs.new.condensers (λ k. (c.args.place, outcome_at l k) ∷ [])) c.in-Runs.ensures.value c.tell_runs.ensures.stands
