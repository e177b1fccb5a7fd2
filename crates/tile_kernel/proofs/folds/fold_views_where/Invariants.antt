use Rattle.std.proofs.Common.{◌≡◌, ◌≤◌, take}
use Rattle.tile_kernel.specs.Told.{demanded_at}
use Rattle.tile_kernel.specs.Standing.{Stands}
use Rattle.tile_kernel.proofs.folds.fold_views_where.Given as goal

abbrev pub invariant-loop-k : goal.invariant-loop-k
invariant-loop-k l = record {
  stands : Stands l.accumulator (demanded_at (take l.k l.places) (take l.k l.condition) (take l.k l.column));
  op : l.accumulator.running.op ≡ l.fn.op;
  count : l.accumulator.running.count ≤ l.k;
}
