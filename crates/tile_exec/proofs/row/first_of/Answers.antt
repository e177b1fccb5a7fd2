-- One more point.
use Rattle.std.proofs.Common.{sym, subst, length}
use Rattle.std.specs.List.{enumerate_from}
use Rattle.tile_kernel.specs.Told.{IsFirst}
use Rattle.tile_exec.specs.Rows.{row_at, first_place, rows_told}
use Rattle.tile_columns.proofs.ByRows.{flat_more}
use Rattle.tile_exec.proofs.row.first_of.Goals as goal

pub loop-k-preserved : goal.loop-k-preserved
loop-k-preserved c =
    let k = c.loop-k.k in
    let ranks = c.args.ranks.now in
    let columns = c.args.columns.now in
    let width = length columns in
    subst (IsFirst c.tell_point.new.first.fault c.tell_point.new.first.place)
    (sym (flat_more (λ k. enumerate_from (first_place ranks width k) (row_at columns k)) k))
    (c.tell_point.ensures (rows_told ranks width columns k) c.loop-k.invariant)
