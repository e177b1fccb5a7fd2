use Rattle.std.proofs.Common.{negsuc}
use Rattle.tile_kernel.specs.Selected.{selected}
use Rattle.tile_kernel.proofs.Reductions.{IsTop}
use Rattle.tile_kernel.proofs.reduce.greatest_over.Given as goal

abbrev pub invariant-loop-place : goal.invariant-loop-place
invariant-loop-place g l = IsTop (negsuc 9223372036854775807) (selected (g.C.Choice.times l.choice) (g.V.Operand.value l.values) l.place) l.best
