use Rattle.std.proofs.Common.{arith}
use Rattle.std.proofs.lemmas.Grind.{common_steps}
use Rattle.arr_core.proofs.axes.+count_points.Goals as goal

pub count_points-requires : goal.count_points-requires
count_points-requires t c = grind (arith, common_steps)

pub returns-in-empty-clause-count : goal.returns-in-empty-clause-count
returns-in-empty-clause-count t c = grind (arith, common_steps)

pub returns-in-len1-up-clause-count : goal.returns-in-len1-up-clause-count
returns-in-len1-up-clause-count t c = grind (arith, common_steps)

pub returns-in-len1-up-clause-small : goal.returns-in-len1-up-clause-small
returns-in-len1-up-clause-small t c = grind (arith, common_steps)
