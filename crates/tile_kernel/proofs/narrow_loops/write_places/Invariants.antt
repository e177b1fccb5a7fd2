use Rattle.tile_kernel.specs.Columns.{exact_at, AreValues}
use Rattle.tile_kernel.proofs.narrow_loops.write_places.Given as goal

-- the values so far are those of the operation
abbrev pub invariant-loop-place : goal.invariant-loop-place
invariant-loop-place g l = AreValues l.place (exact_at g.O.Trial.exact (g.L.NarrowOperand.value l.left) (g.R.NarrowOperand.value l.right)) l.out
