-- What was condensed in one loop stands for all cells of the column, at any places.
use Rattle.std.proofs.Common.{◌∙◌, ◌≡◌, length}
use Rattle.std.specs.List.{range_with_len}
use Rattle.std.proofs.lemmas.List.FromFn.{length-range_with_len}
use Rattle.tile_kernel.proofs.Tellings.{length-told_at}
use Rattle.tile_kernel.proofs.folds.fold_values.Goals as goal

pub returns-in-Some-clause-count : goal.returns-in-Some-clause-count
returns-in-Some-clause-count c =
    let places = range_with_len 0 (length c.args.column.now) in
    let long : length places ≡ length c.args.column.now = length-range_with_len 0 (length c.args.column.now) in
    let s = c.in-Some.ensures.stands places long in
    s.counted ∙ length-told_at places c.args.column.now long
