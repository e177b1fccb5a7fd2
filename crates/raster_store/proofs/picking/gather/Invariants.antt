use Rattle.std.proofs.Common.{◌≡◌, take}
use Rattle.tile_store.specs.Picking.{picked}
use Rattle.raster_store.proofs.picking.gather.Given as goal

abbrev pub invariant-loop-rank : goal.invariant-loop-rank
invariant-loop-rank l = l.picks.items ≡ picked l.cells.items (take l.rank-index l.ranks)
