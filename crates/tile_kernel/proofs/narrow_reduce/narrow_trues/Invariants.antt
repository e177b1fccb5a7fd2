use Rattle.std.proofs.Common.{◌≡◌, ◌≤◌, take}
use Rattle.wcps_mean.specs.Condensers.{trues}
use Rattle.tile_kernel.proofs.narrow_reduce.narrow_trues.Given as goal

abbrev pub invariant-loop-place : goal.invariant-loop-place
invariant-loop-place l = record {
  value : l.count ≡ trues (take l.place l.values);
  few : l.count ≤ l.place;
}
