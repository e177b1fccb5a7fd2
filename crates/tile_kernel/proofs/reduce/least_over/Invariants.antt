use Rattle.std.proofs.Common.{pos}
use Rattle.tile_kernel.specs.Selected.{selected}
use Rattle.tile_kernel.proofs.Reductions.{IsBottom}
use Rattle.tile_kernel.proofs.reduce.least_over.Given as goal

abbrev pub invariant-loop-place : goal.invariant-loop-place
invariant-loop-place g l = IsBottom (pos 9223372036854775807) (selected (g.C.Choice.times l.choice) (g.V.Operand.value l.values) l.place) l.best
