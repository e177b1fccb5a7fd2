-- An item whose cells are few has few fields, and their number fits 32 bits.
use Rattle.std.proofs.Common.{◌≤◌, length, arith}
use Rattle.wcps_types.specs.Cells.{max_cells}
use Rattle.wcps_mean.proofs.FewCells.{few_fields}
use Rattle.wcps_mean.proofs.answer.count_fields.Goals as goal

pub overflow_cast-result : goal.overflow_cast-result
overflow_cast-result c =
    let few : length c.args.item.now.booleans.items ≤ max_cells = few_fields c.args.item.now.domain (length c.args.item.now.booleans.items) max_cells c.requires in
    omega (arith, few, c.len.ensures)

pub returns-clause-value : goal.returns-clause-value
returns-clause-value c =
    let few : length c.args.item.now.booleans.items ≤ max_cells = few_fields c.args.item.now.domain (length c.args.item.now.booleans.items) max_cells c.requires in
    omega (arith, few, c.len.ensures)
