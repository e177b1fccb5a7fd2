use Rattle.std.proofs.Common.{◌≡◌, take}
use Rattle.plan_ir.specs.Units.{distinct}
use Rattle.tile_columns.proofs.different.list_tiles.Given as goal

abbrev pub invariant-loop-tile : goal.invariant-loop-tile
invariant-loop-tile l = l.seen.items ≡ distinct (take l.tile-index l.tiles)
