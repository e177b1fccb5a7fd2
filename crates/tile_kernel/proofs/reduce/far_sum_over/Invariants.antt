use Rattle.std.proofs.Common.{◌≡◌, ◌+◌, ◌*◌, ◌^◌, ◌≤◌, length, pos, ◌+ℤ◌}
use Rattle.wcps_mean.specs.Condensers.{total}
use Rattle.tile_kernel.specs.Selected.{selected}
use Rattle.tile_kernel.proofs.reduce.far_sum_over.Given as goal

abbrev pub invariant-loop-place : goal.invariant-loop-place
invariant-loop-place g l = record {
  sum : pos (l.low + 4294967296 * l.high) ≡ total (selected (g.C.Choice.times l.choice) (g.V.Operand.value l.values) l.place) +ℤ pos (length (selected (g.C.Choice.times l.choice) (g.V.Operand.value l.values) l.place) * 2 ^ 63);
  low : l.low ≤ length (selected (g.C.Choice.times l.choice) (g.V.Operand.value l.values) l.place) * 4294967295;
  high : l.high ≤ length (selected (g.C.Choice.times l.choice) (g.V.Operand.value l.values) l.place) * 4294967295;
}
