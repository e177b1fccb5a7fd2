use Rattle.std.proofs.Common.{arith}
use Rattle.std.proofs.lemmas.Grind.{common_steps}
use Rattle.arr_core.proofs.domain.+few_points.Goals as goal

pub few_points-requires : goal.few_points-requires
few_points-requires t c = grind (arith, common_steps)

pub returns-in-empty-clause-some : goal.returns-in-empty-clause-some
returns-in-empty-clause-some t c = grind (arith, common_steps)
