use Rattle.std.proofs.Common.{◌≡◌, ◌++◌, drop}
use Rattle.arr_core.specs.Runs.{spread, cells_of}
use Rattle.raster_store.proofs.lists.append_cells.Given as goal

-- what was written, and what is still to be
abbrev pub invariant-loop-place : goal.invariant-loop-place
invariant-loop-place l = l.cells.items ++ spread (drop l.place l.runs.values.items) (drop l.place l.runs.counts.items) ≡ l.fn.cells.items ++ cells_of l.runs
