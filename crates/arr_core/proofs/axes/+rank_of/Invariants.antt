use Rattle.std.proofs.Common.{length}
use Rattle.arr_core.proofs.axes.+rank_of.Given as goal

abbrev pub decreases-rank_of : goal.decreases-rank_of
decreases-rank_of l = length l.axes.now
