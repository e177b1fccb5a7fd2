use Rattle.std.proofs.Common.{arith}
use Rattle.wcps_types.proofs.Fields.{item_fields}
use Rattle.wcps_types.proofs.item.item_of.Goals as goal

pub returns : goal.returns
returns c = grind (arith, item_fields)
