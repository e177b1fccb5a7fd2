use Rattle.std.proofs.Common.{take}
use Rattle.tile_index.specs.Index.{AreExchanges}
use Rattle.tile_index.proofs.changes.are_exchanges.Given as goal

abbrev pub invariant-loop-tile : goal.invariant-loop-tile
invariant-loop-tile l = AreExchanges (take l.tile-index l.changes) l.entries
