use Rattle.std.proofs.Common.{arith}
use Rattle.std.proofs.lemmas.Grind.{common_steps}
use Rattle.wcps_mean.proofs.answer.push_combination.Goals as goal

pub push_tree-requires : goal.push_tree-requires
push_tree-requires g c = grind (arith, common_steps)
