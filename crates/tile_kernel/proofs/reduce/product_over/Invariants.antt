use Rattle.wcps_mean.specs.Products.{StandsFor}
use Rattle.tile_kernel.specs.Selected.{selected}
use Rattle.tile_kernel.proofs.reduce.product_over.Given as goal

abbrev pub invariant-loop-place : goal.invariant-loop-place
invariant-loop-place g l = StandsFor l.product (selected (g.C.Choice.times l.choice) (g.V.Operand.value l.values) l.place)
