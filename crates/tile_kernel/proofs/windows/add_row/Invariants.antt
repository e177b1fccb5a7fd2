use Rattle.std.proofs.Common.{◌+◌, ◌*◌, length}
use Rattle.tile_kernel.specs.Windows.{KeepsAcross}
use Rattle.tile_kernel.proofs.windows.add_row.Given as goal

abbrev pub invariant-loop-place : goal.invariant-loop-place
invariant-loop-place g l = KeepsAcross g.S.Summary.keeps g.S.Summary.counted l.grid l.across (l.row * length l.across + l.place) l.kept
