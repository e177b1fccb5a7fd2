use Rattle.std.proofs.Common.{length}
use Rattle.tile_columns.proofs.locate.+add_axes.Given as goal

abbrev pub decreases-add_axes : goal.decreases-add_axes
decreases-add_axes l = length l.axes.now
