use Rattle.std.proofs.Common.{length}
use Rattle.wcps_mean.proofs.answer.+run_length.Given as goal

abbrev pub decreases-run_length : goal.decreases-run_length
decreases-run_length l = length l.axes.now
