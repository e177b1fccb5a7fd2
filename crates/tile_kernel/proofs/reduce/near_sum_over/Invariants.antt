use Rattle.std.proofs.Common.{◌≡◌, ◌*◌, ◌^◌, ◌<◌, ◌≤◌, length, pos, ◌+ℤ◌}
use Rattle.wcps_mean.specs.Condensers.{total}
use Rattle.tile_kernel.specs.Selected.{selected}
use Rattle.tile_kernel.proofs.reduce.near_sum_over.Given as goal

-- where no mark is high, each value was raised by 2^40, and the sum did not wrap
abbrev pub invariant-loop-place : goal.invariant-loop-place
invariant-loop-place g l = l.marks < 2 ^ 41 →
    (pos l.sum ≡ total (selected (g.C.Choice.times l.choice) (g.V.Operand.value l.values) l.place) +ℤ pos (length (selected (g.C.Choice.times l.choice) (g.V.Operand.value l.values) l.place) * 2 ^ 40))
    × (l.sum ≤ length (selected (g.C.Choice.times l.choice) (g.V.Operand.value l.values) l.place) * 2 ^ 41)
