-- It stands for all cells.
use Rattle.std.proofs.Common.{arith}
use Rattle.tile_kernel.specs.Told.{told_at}
use Rattle.tile_kernel.proofs.Tellings.{length-told_at}
use Rattle.tile_kernel.proofs.folds.fold_by.Goals as goal

pub returns-clause-stands : goal.returns-clause-stands
returns-clause-stands g c =
    let n = length-told_at c.args.places.now c.args.column.now c.requires in
    c.accumulator.ensures.stands (told_at c.args.places.now c.args.column.now) (omega (arith, n, c.len.ensures.places)) c.condense.ensures.stands
