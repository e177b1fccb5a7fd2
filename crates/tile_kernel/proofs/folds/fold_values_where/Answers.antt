-- What was condensed in one loop stands for what the cells add under the condition, at any places.
use Rattle.std.proofs.Common.{◌≡◌, length, arith}
use Rattle.std.specs.List.{range_with_len}
use Rattle.std.proofs.lemmas.List.FromFn.{length-range_with_len}
use Rattle.tile_kernel.proofs.Tellings.{few_demanded}
use Rattle.tile_kernel.proofs.folds.fold_values_where.Goals as goal

pub returns-in-Some : goal.returns-in-Some
returns-in-Some c =
    let places = range_with_len 0 (length c.args.column.now) in
    let long : length places ≡ length c.args.column.now = length-range_with_len 0 (length c.args.column.now) in
    let one = c.in-Some.ensures places long in
    let few = few_demanded places c.args.condition.now c.args.column.now in
    let counted = one.1.counted in
    record { stands = c.in-Some.ensures; op = one.0; count = omega (arith, few, counted) }
