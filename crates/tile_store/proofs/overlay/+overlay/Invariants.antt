use Rattle.std.proofs.Common.{◌+◌, ◌*◌, length}
use Rattle.arr_core.specs.Domains.{rank_of}
use Rattle.tile_store.specs.Numbers.{number_of}
use Rattle.tile_store.proofs.Rows.{RowsWritten}
use Rattle.tile_store.proofs.overlay.+overlay.Given as goal

abbrev pub decreases-overlay : goal.decreases-overlay
decreases-overlay l = length l.to_axes.now

abbrev pub invariant-loop-step : goal.invariant-loop-step
invariant-loop-step l =
    RowsWritten l.to_rest l.rest l.to_row l.common.to l.step (λ s q. number_of l.numbers (l.at + (l.common.from + s) * l.row + rank_of l.rest q)) l.fn.to l.to
