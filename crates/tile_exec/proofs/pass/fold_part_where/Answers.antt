use Rattle.std.proofs.Common.{arith}
use Rattle.std.proofs.lemmas.Grind.{common_steps}
use Rattle.tile_exec.proofs.pass.fold_part_where.Goals as goal

pub returns-in-Some-clause-stands : goal.returns-in-Some-clause-stands
returns-in-Some-clause-stands c = grind (arith, common_steps)

pub fold_column_where-requires-clause-places : goal.fold_column_where-requires-clause-places
fold_column_where-requires-clause-places c = grind (arith, common_steps)
