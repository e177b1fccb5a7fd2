use Rattle.std.proofs.Common.{◌≡◌, take}
use Rattle.tile_columns.specs.Spots.{cells_at}
use Rattle.tile_columns.proofs.spots.list_cells.Given as goal

abbrev pub invariant-loop-rank : goal.invariant-loop-rank
invariant-loop-rank l = l.picked.items ≡ cells_at l.cells (take l.rank-index l.ranks)
