use Rattle.std.proofs.Common.{◌≡◌, ◌*◌, ◌^◌, pos, neg_ℤ, ◌+ℤ◌, ◌≤ℤ◌, take}
use Rattle.wcps_mean.specs.Condensers.{total}
use Rattle.tile_kernel.proofs.narrow_reduce.narrow_sum.Given as goal

abbrev pub invariant-loop-place : goal.invariant-loop-place
invariant-loop-place l = record {
  value : l.sum ≡ total (take l.place l.values);
  from_below : neg_ℤ (pos (l.place * 2 ^ 31)) ≤ℤ l.sum;
  from_above : (l.sum +ℤ pos l.place) ≤ℤ pos (l.place * 2 ^ 31);
}
