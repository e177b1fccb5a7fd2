-- The variables go over the points of a box of these extents.
use Rattle.std.proofs.Common.{◌∙◌}
use Rattle.tile_columns.proofs.WindowMeaning.{extents_points}
use Rattle.tile_columns.proofs.windows.places_of.Goals as goal

pub returns : goal.returns
returns c =
    let x = rw c.in-Some-2.is at c.in_ok-area.ensures in
    record {
      rows = x.rows;
      columns = x.columns;
      over = c.goes_over.ensures c.if-not-goes_over.false ∙ extents_points _ _ x;
    }
