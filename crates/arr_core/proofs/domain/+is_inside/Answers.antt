use Rattle.std.proofs.Common.{arith}
use Rattle.std.proofs.lemmas.Grind.{common_steps}
use Rattle.arr_core.proofs.domain.+is_inside.Goals as goal

pub returns-in-empty-clause-inside : goal.returns-in-empty-clause-inside
returns-in-empty-clause-inside t c = grind (arith, common_steps)

pub returns-in-empty-clause-test : goal.returns-in-empty-clause-test
returns-in-empty-clause-test t c = grind (arith, common_steps)

pub returns-then-has_coordinate-clause-inside : goal.returns-then-has_coordinate-clause-inside
returns-then-has_coordinate-clause-inside t c = grind (arith, common_steps)

pub returns-then-has_coordinate-clause-test : goal.returns-then-has_coordinate-clause-test
returns-then-has_coordinate-clause-test t c = grind (arith, common_steps)
