use Rattle.std.proofs.Common.{length}
use Rattle.tile_columns.proofs.tiling.+push_tile.Given as goal

abbrev pub decreases-push_tile : goal.decreases-push_tile
decreases-push_tile l = length l.axes.now
