-- What is lent are the outcomes of the columns.
use Rattle.std.proofs.Common.{subst, sym, ap, List}
use Rattle.wcps_mean.specs.declared.cell.Outcome.{Outcome}
use Rattle.tile_kernel.specs.Told.{demanded_from}
use Rattle.tile_kernel.specs.Repeated.{shown}
use Rattle.tile_kernel.specs.Standing.{EachTakesIn}
use Rattle.tile_kernel.proofs.folds.add_seen_where.Goals as goal

pub returns-in-Each-column-clause-stands : goal.returns-in-Each-column-clause-stands
returns-in-Each-column-clause-stands c =
    subst (λ (l : List Outcome). EachTakesIn c.args.folds.now c.add_views_where.new.folds (demanded_from c.args.place l (shown c.args.column.now))) (sym (ap shown c.in-Each.is))
    (subst (λ (l : List Outcome). EachTakesIn c.args.folds.now c.add_views_where.new.folds (demanded_from c.args.place c.in-Each.chosen l)) (sym (ap shown c.in-Each-column.is)) c.add_views_where.ensures.stands)
