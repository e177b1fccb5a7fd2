-- One more tile.
use Rattle.std.proofs.Common.{arith}
use Rattle.tile_columns.proofs.Gathers.{distinct_step}
use Rattle.tile_columns.proofs.different.list_tiles.Goals as goal

pub loop-tile-preserved : goal.loop-tile-preserved
loop-tile-preserved c = distinct_step c.args.tiles.now c.loop-tile.seen.items c.add_tile.new.seen.items c.loop-tile.tile-index (omega arith) c.in_ok-add_tile.ensures c.loop-tile.invariant
