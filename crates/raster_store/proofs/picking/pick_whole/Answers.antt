-- The cells at ranks are those of the whole tile.
use Rattle.raster_store.proofs.Readings.{gathered}
use Rattle.raster_store.proofs.picking.pick_whole.Goals as goal

pub returns-clause-read : goal.returns-clause-read
returns-clause-read g c = gathered _ _ _ _ c.args.of.ranks.now c.fetch_of.new.cells.items _ c.requires.ranks c.in_ok-fetch_of.ensures.read c.in_ok-gather.ensures
