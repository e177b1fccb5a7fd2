use Rattle.std.proofs.Common.{◌≤◌, ◌^◌}
use Rattle.tile_kernel.specs.Columns.{exact_at}
use Rattle.tile_kernel.specs.Narrow.{AreNarrowOf, IsBound}
use Rattle.tile_kernel.proofs.narrow_loops.write_bounded.Given as goal

-- the values so far, and bounds of the operands' so far
abbrev pub invariant-loop-place : goal.invariant-loop-place
invariant-loop-place g l = record {
  values : AreNarrowOf l.place (exact_at g.O.Trial.exact (g.L.NarrowOperand.value l.left) (g.R.NarrowOperand.value l.right)) l.out;
  left_bound : IsBound l.place (g.L.NarrowOperand.value l.left) l.most_left;
  right_bound : IsBound l.place (g.R.NarrowOperand.value l.right) l.most_right;
  small_left : l.most_left ≤ 2 ^ 31;
  small_right : l.most_right ≤ 2 ^ 31;
}
