use Rattle.std.proofs.Common.{vec_len}
use Rattle.tile_index.proofs.Exchanging.{IsExchanging}
use Rattle.tile_index.proofs.changes.exchange_all.Given as goal

abbrev pub invariant-loop-tile : goal.invariant-loop-tile
invariant-loop-tile l = IsExchanging l.fn.changes.items l.initial.entries.items l.changes.items l.entries.items

abbrev pub decreases-loop-tile : goal.decreases-loop-tile
decreases-loop-tile l = vec_len l.changes
