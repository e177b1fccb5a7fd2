-- What was condensed in one loop stands for what the cells add under the condition, at most one point each.
use Rattle.std.proofs.Common.{arith}
use Rattle.tile_kernel.proofs.Tellings.{few_demanded}
use Rattle.tile_kernel.proofs.folds.fold_column_where.Goals as goal

pub returns-in-Some : goal.returns-in-Some
returns-in-Some c =
    let s = c.in-Some.ensures c.args.places.now c.requires.places in
    let few = few_demanded c.args.places.now c.args.condition.now c.args.column.now in
    let counted = s.1.counted in
    record { stands = s.1; op = s.0; count = omega (arith, few, counted) }
