use Rattle.std.proofs.Common.{◌≡◌, ◌*◌, length, take}
use Rattle.run_tile.specs.Types.{width_of}
use Rattle.run_tile.specs.Raw.{raw_size, IsRawWritten}
use Rattle.run_tile.proofs.raw.write_values.Given as goal

abbrev pub invariant-loop-place : goal.invariant-loop-place
invariant-loop-place l = record {
  whole : length l.bytes ≡ raw_size l.fn.kind l.cells;
  written : IsRawWritten l.fn.kind l.cells (take (l.place * width_of l.fn.kind) l.bytes) l.place;
}
