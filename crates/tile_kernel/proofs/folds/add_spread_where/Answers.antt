-- What is lent are the outcomes of the columns.
use Rattle.std.proofs.Common.{subst, List}
use Rattle.wcps_mean.specs.declared.cell.Outcome.{Outcome}
use Rattle.tile_kernel.specs.Told.{demanded_from}
use Rattle.tile_kernel.specs.Repeated.{shown}
use Rattle.tile_kernel.specs.Standing.{EachTakesIn}
use Rattle.tile_kernel.proofs.folds.add_spread_where.Goals as goal

pub returns-clause-stands : goal.returns-clause-stands
returns-clause-stands c =
    subst (λ (l : List Outcome). EachTakesIn c.args.folds.now c.add_views_where.new.folds (demanded_from c.args.place l (shown c.args.column.now))) c.spread-chosen.ensures
    (subst (λ (l : List Outcome). EachTakesIn c.args.folds.now c.add_views_where.new.folds (demanded_from c.args.place c.spread-chosen.result l)) c.spread-cells.ensures c.add_views_where.ensures.stands)
