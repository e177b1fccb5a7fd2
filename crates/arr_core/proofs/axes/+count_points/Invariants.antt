use Rattle.std.proofs.Common.{length}
use Rattle.arr_core.proofs.axes.+count_points.Given as goal

abbrev pub decreases-count_points : goal.decreases-count_points
decreases-count_points l = length l.axes.now
