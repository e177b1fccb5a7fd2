use Rattle.std.proofs.Common.{length}
use Rattle.tile_columns.proofs.frame.+turn_as.Given as goal

abbrev pub decreases-turn_as : goal.decreases-turn_as
decreases-turn_as l = length l.axes.now
