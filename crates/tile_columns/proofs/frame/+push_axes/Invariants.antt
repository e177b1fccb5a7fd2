use Rattle.std.proofs.Common.{length}
use Rattle.tile_columns.proofs.frame.+push_axes.Given as goal

abbrev pub decreases-push_axes : goal.decreases-push_axes
decreases-push_axes l = length l.axes.now
