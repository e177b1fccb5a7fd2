use Rattle.std.proofs.Common.{◌≡◌, ℕ, pos, ◌<◌, ◌≤ℤ◌, slice_index_or}
use Rattle.wcps_mean.specs.declared.cell.Outcome.TheVariants.{Value}
use Rattle.tile_kernel.proofs.loops.try_from.Given as goal

abbrev pub invariant-loop-place : goal.invariant-loop-place
invariant-loop-place g l = pos 0 ≤ℤ l.marks → (k : ℕ) → k < l.place → g.O.Trial.exact (g.L.Operand.value l.left k) (g.R.Operand.value l.right k) ≡ Value (slice_index_or l.out k (pos 0))
