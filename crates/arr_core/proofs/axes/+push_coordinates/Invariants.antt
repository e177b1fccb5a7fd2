use Rattle.std.proofs.Common.{length}
use Rattle.arr_core.proofs.axes.+push_coordinates.Given as goal

abbrev pub decreases-push_coordinates : goal.decreases-push_coordinates
decreases-push_coordinates l = length l.axes.now
