-- What both have for each run gives what they have at each place.
use Rattle.std.proofs.Common.{sym, subst, List}
use Rattle.std.specs.Prelude.{IfSome}
use Rattle.wcps_mean.specs.declared.cell.Outcome.{Outcome}
use Rattle.tile_kernel.specs.Repeated.{repeated, shown}
use Rattle.tile_kernel.specs.Standing.{IsCondensedWhere}
use Rattle.tile_kernel.proofs.folds.condense_seen_where.Goals as goal

pub returns-in-Some : goal.returns-in-Some
returns-in-Some c =
    let pair = c.in-Some.pair in
    subst (λ (l : List Outcome). IfSome c.condense_runs_where.result (IsCondensedWhere c.args.op l (shown c.args.column.now))) (sym c.in-Some.ensures.left_is)
    (subst (λ (l : List Outcome). IfSome c.condense_runs_where.result (IsCondensedWhere c.args.op (repeated pair.left pair.counts.now) l)) (sym c.in-Some.ensures.right_is) c.condense_runs_where.ensures)
