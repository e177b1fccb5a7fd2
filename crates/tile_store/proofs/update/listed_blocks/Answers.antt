-- The blocks so far are those that the index has for the tiles so far.
use Rattle.std.proofs.Common.{arith}
use Rattle.std.proofs.lemmas.Grind.{common_steps}
use Rattle.tile_store.specs.Listing.{listed_for}
use Rattle.block_file.proofs.Times.{times_none}
use Rattle.tile_store.proofs.Listed.{listed_for_step}
use Rattle.tile_store.proofs.update.listed_blocks.Goals as goal

pub loop-tile-init : goal.loop-tile-init
unfolding listed_for
loop-tile-init c = λ k. rw c.new-blocks.ensures.items (times_none k)

pub loop-tile-preserved : goal.loop-tile-preserved
loop-tile-preserved c = λ k. listed_for_step c.args.index.now c.args.tiles.now c.loop-tile.tile-index k c.loop-tile.blocks.items _ _ c.loop-tile-test.true c.get.ensures (c.loop-tile.invariant k) (c.in_ok-push_blocks.ensures k)

pub returns : goal.returns
returns c = grind (arith, common_steps)
