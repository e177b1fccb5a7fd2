-- A tile has as many cells as its box has points, and at least one.
use Rattle.std.proofs.Common.{arith}
use Rattle.std.proofs.lemmas.Grind.{common_steps}
use Rattle.arr_core.proofs.Points.{length-points, count-pos}
use Rattle.tile_store.proofs.tile.cell_count.Goals as goal

pub returns-clause-points : goal.returns-clause-points
returns-clause-points c = grind (arith, common_steps, length-points c.args.tile.now)

pub returns-clause-some : goal.returns-clause-some
returns-clause-some c = grind (arith, common_steps, count-pos c.args.tile.now)
