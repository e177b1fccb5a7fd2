use Rattle.std.proofs.Common.{◌≡◌, ◌*◌, length, map, w64, to_z}
use Rattle.tile_kernel.specs.Columns.{AreValues}
use Rattle.tile_kernel.specs.Lanes.{IsPair, AreSure}
use Rattle.tile_kernel.proofs.lanes.try_blocks.Given as goal

abbrev pub invariant-loop-block : goal.invariant-loop-block
invariant-loop-block g l = IsPair (map (to_z w64) l.marks) × (length l.out ≡ length l.initial.out) × (AreSure (map (to_z w64) l.marks) → AreValues (8 * l.block) (λ k. g.O.Trial.exact (g.L.Operand.value l.left k) (g.R.Operand.value l.right k)) l.out)
