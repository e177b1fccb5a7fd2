use Rattle.std.proofs.Common.{length}
use Rattle.tile_columns.proofs.fields.+evaluate_fields.Given as goal

abbrev pub decreases-evaluate_fields : goal.decreases-evaluate_fields
decreases-evaluate_fields g l = length l.binds.now
