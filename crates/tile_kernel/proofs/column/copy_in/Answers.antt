-- The cells that were copied stand at the front of the values.
use Rattle.std.proofs.Common.{◌∙◌, ap, arith, length, take}
use Rattle.std.proofs.lemmas.Grind.{common_steps}
use Rattle.tile_kernel.proofs.Places.{written_back, copied_all}
use Rattle.tile_kernel.proofs.column.copy_in.Goals as goal

pub returns-clause-front : goal.returns-clause-front
returns-clause-front c =
    ap (take (length c.args.cells.now)) (written_back c.args.values.now.len c.loop-place.all _ (omega (arith, c.args.values.now.ok.0)))
    ∙ copied_all c.args.cells.now c.loop-place.all (omega (arith, c.requires, c.args.values.now.ok.0)) (λ k lt. c.loop-place.invariant k (omega arith))

pub returns-clause-places : goal.returns-clause-places
returns-clause-places c = grind (arith, common_steps)
