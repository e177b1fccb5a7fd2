use Rattle.std.proofs.Common.{length}
use Rattle.map_templates.proofs.zonal.+iterators_text.Given as goal

abbrev pub decreases-iterators_text : goal.decreases-iterators_text
decreases-iterators_text l = length l.axes.now
