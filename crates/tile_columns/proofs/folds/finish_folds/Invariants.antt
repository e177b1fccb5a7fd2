use Rattle.std.proofs.Common.{◌≡◌, length}
use Rattle.tile_columns.proofs.Condensings.{AreFinished}
use Rattle.tile_columns.proofs.folds.finish_folds.Given as goal

abbrev pub invariant-loop-accumulator : goal.invariant-loop-accumulator
invariant-loop-accumulator l = record {
  places : length l.list.items ≡ length l.yielded;
  each : AreFinished l.yielded l.list.items;
}
