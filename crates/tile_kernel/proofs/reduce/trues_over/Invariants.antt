use Rattle.std.proofs.Common.{◌≡◌, ◌≤◌, length}
use Rattle.wcps_mean.specs.Condensers.{trues}
use Rattle.tile_kernel.specs.Selected.{selected}
use Rattle.tile_kernel.proofs.reduce.trues_over.Given as goal

abbrev pub invariant-loop-place : goal.invariant-loop-place
invariant-loop-place g l = record {
  value : l.count ≡ trues (selected (g.C.Choice.times l.choice) (g.V.Operand.value l.values) l.place);
  few : l.count ≤ length (selected (g.C.Choice.times l.choice) (g.V.Operand.value l.values) l.place);
}
