use Rattle.std.proofs.Common.{◌≡◌, [], take}
use Rattle.tile_store.specs.Listing.{Takes}
use Rattle.tile_store.specs.Written.{AreWritten}
use Rattle.tile_store.proofs.update.write_tiles.Given as goal

abbrev pub invariant-loop-tile : goal.invariant-loop-tile
invariant-loop-tile g l = let state = g.B.Blocks.state in record {
  written : AreWritten l.patch (state l.fn.blocks) l.field (take l.tile-index l.tiles) l.fresh (state l.blocks);
  takes : Takes [] l.fresh.blocks.items (state l.fn.blocks) (state l.blocks);
  quiet : (state l.blocks).failures ≡ (state l.fn.blocks).failures;
}
