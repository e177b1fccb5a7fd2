use Rattle.std.proofs.Common.{arith}
use Rattle.std.proofs.lemmas.Grind.{common_steps}
use Rattle.tile_columns.proofs.gather.gather.Goals as goal

pub gather_listed-requires-clause-located : goal.gather_listed-requires-clause-located
gather_listed-requires-clause-located g c = grind (arith, common_steps)

pub gather_stretches-requires-clause-located : goal.gather_stretches-requires-clause-located
gather_stretches-requires-clause-located g c = grind (arith, common_steps)
