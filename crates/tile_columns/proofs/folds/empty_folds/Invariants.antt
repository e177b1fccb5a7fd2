use Rattle.std.proofs.Common.{◌≡◌, length, []}
use Rattle.tile_kernel.specs.Standing.{AreOf, HaveAtMost, EachStands}
use Rattle.tile_columns.proofs.folds.empty_folds.Given as goal

abbrev pub invariant-loop-place : goal.invariant-loop-place
invariant-loop-place l = record {
  places : length l.folds.items ≡ l._place;
  op : AreOf l.op l.folds.items;
  room : HaveAtMost 0 l.folds.items;
  stands : EachStands l.folds.items (λ k. []);
}
