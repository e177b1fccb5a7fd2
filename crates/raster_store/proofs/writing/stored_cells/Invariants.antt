use Rattle.std.proofs.Common.{◌≡◌, map, take}
use Rattle.arr_core.specs.Cells.{stored}
use Rattle.raster_store.proofs.writing.stored_cells.Given as goal

abbrev pub invariant-loop-cell : goal.invariant-loop-cell
invariant-loop-cell l = l.list.items ≡ map stored (take l.cell-index l.cells)
