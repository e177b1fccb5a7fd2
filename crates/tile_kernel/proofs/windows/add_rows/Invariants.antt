use Rattle.std.proofs.Common.{◌*◌, length}
use Rattle.tile_kernel.specs.Windows.{KeepsAcross}
use Rattle.tile_kernel.proofs.windows.add_rows.Given as goal

abbrev pub invariant-loop-row : goal.invariant-loop-row
invariant-loop-row g l = KeepsAcross g.S.Summary.keeps g.S.Summary.counted l.grid l.across (l.row * length l.across) l.kept
