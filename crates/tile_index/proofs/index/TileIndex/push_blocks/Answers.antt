use Rattle.std.proofs.Common.{arith}
use Rattle.std.proofs.lemmas.Grind.{common_steps}
use Rattle.tile_index.proofs.index.TileIndex.push_blocks.Goals as goal

pub returns : goal.returns
returns c = grind (arith, common_steps)

pub loop-tile-preserved : goal.loop-tile-preserved
loop-tile-preserved c = grind (arith, common_steps)
