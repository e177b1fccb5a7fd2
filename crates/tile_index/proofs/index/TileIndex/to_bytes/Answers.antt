use Rattle.std.proofs.Common.{arith}
use Rattle.std.proofs.lemmas.Grind.{common_steps}
use Rattle.tile_index.specs.Bytes.{index_bytes}
use Rattle.tile_index.proofs.index.TileIndex.to_bytes.Goals as goal

pub loop-tile-preserved : goal.loop-tile-preserved
loop-tile-preserved c = grind (arith, common_steps)

pub returns : goal.returns
unfolding index_bytes
returns c = grind (arith, common_steps)
