use Rattle.std.proofs.Common.{length}
use Rattle.map_templates.proofs.zonal.+positions_text.Given as goal

abbrev pub decreases-positions_text : goal.decreases-positions_text
decreases-positions_text l = length l.axes.now
