use Rattle.std.proofs.Common.{arith}
use Rattle.std.proofs.lemmas.Grind.{common_steps}
use Rattle.arr_core.proofs.axes.+rank_of.Goals as goal

pub count_points-requires-clause-ordered : goal.count_points-requires-clause-ordered
count_points-requires-clause-ordered t c = grind (arith, common_steps)

pub count_points-requires-clause-few : goal.count_points-requires-clause-few
count_points-requires-clause-few t c = grind (arith, common_steps)

pub rank_of-requires : goal.rank_of-requires
rank_of-requires t c = grind (arith, common_steps)

pub returns-in-empty-clause-rank : goal.returns-in-empty-clause-rank
returns-in-empty-clause-rank t c = grind (arith, common_steps)

pub returns-in-len1-up-point-clause-rank : goal.returns-in-len1-up-point-clause-rank
returns-in-len1-up-point-clause-rank t c = grind (arith, common_steps)
