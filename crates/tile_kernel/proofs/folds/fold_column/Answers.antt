-- What was condensed in one loop stands for all cells of the column.
use Rattle.std.proofs.Common.{◌∙◌}
use Rattle.tile_kernel.proofs.Tellings.{length-told_at}
use Rattle.tile_kernel.proofs.folds.fold_column.Goals as goal

pub returns-in-Some : goal.returns-in-Some
returns-in-Some c =
    let s = c.in-Some.ensures.stands c.args.places.now c.requires in
    record { stands = s; op = c.in-Some.ensures.op; count = s.counted ∙ length-told_at c.args.places.now c.args.column.now c.requires }
