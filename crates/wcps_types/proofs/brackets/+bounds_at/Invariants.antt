use Rattle.std.proofs.Common.{length}
use Rattle.wcps_types.proofs.brackets.+bounds_at.Given as goal

abbrev pub decreases-bounds_at : goal.decreases-bounds_at
decreases-bounds_at l = length l.axes.now
