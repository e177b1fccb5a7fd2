use Rattle.std.proofs.Common.{arith}
use Rattle.std.proofs.lemmas.Grind.{common_steps}
use Rattle.wcps_types.proofs.boxes.value_list.Goals as goal

pub returns-then-items-points : goal.returns-then-items-points
returns-then-items-points c = grind (arith, common_steps)

pub returns-then-boolean : goal.returns-then-boolean
returns-then-boolean c = grind (arith, common_steps)

pub returns-then-not-are_of_kind : goal.returns-then-not-are_of_kind
returns-then-not-are_of_kind c = grind (arith, common_steps)

pub returns-in_err-items : goal.returns-in_err-items
returns-in_err-items c = grind (arith, common_steps)

pub returns-in_err-copy : goal.returns-in_err-copy
returns-in_err-copy c = grind (arith, common_steps)

pub returns-in_err-own : goal.returns-in_err-own
returns-in_err-own c = grind (arith, common_steps)

pub returns-in_err-node : goal.returns-in_err-node
returns-in_err-node c = grind (arith, common_steps)

pub returns : goal.returns
returns c = grind (arith, common_steps)
