-- The count alone changes.
use Rattle.std.proofs.Common.{refl}
use Rattle.tile_columns.proofs.BlankFolds.{counts_zeros}
use Rattle.tile_columns.proofs.blanks.count_zeros.Goals as goal

pub returns-clause-stands : goal.returns-clause-stands
returns-clause-stands c = counts_zeros c.args.a.now _ c.args.count c.requires.op refl refl refl refl refl refl refl
