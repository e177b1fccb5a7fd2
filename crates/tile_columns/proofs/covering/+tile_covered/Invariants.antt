use Rattle.std.proofs.Common.{length}
use Rattle.tile_columns.proofs.covering.+tile_covered.Given as goal

abbrev pub decreases-tile_covered : goal.decreases-tile_covered
decreases-tile_covered l = length l.axes.now
