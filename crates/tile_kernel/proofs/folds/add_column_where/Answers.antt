-- What is lent are the outcomes of the columns.
use Rattle.std.proofs.Common.{subst, List}
use Rattle.wcps_mean.specs.declared.cell.Outcome.{Outcome}
use Rattle.tile_kernel.specs.Told.{demanded_from}
use Rattle.tile_kernel.specs.Repeated.{shown}
use Rattle.tile_kernel.specs.Standing.{EachTakesIn}
use Rattle.tile_kernel.proofs.folds.add_column_where.Goals as goal

pub returns-clause-stands : goal.returns-clause-stands
returns-clause-stands c =
    subst (λ (l : List Outcome). EachTakesIn c.args.folds.now c.add_seen_where.new.folds (demanded_from c.args.place l c.args.column.now)) c.seen-chosen.ensures.value
    (subst (λ (l : List Outcome). EachTakesIn c.args.folds.now c.add_seen_where.new.folds (demanded_from c.args.place (shown c.seen-chosen.result) l)) c.seen-cells.ensures.value c.add_seen_where.ensures.stands)
