use Rattle.std.proofs.Common.{arith}
use Rattle.std.proofs.lemmas.Grind.{common_steps}
use Rattle.tile_store.proofs.picking.pick_blocks.Goals as goal

pub returns-in_err-resize-clause-picked : goal.returns-in_err-resize-clause-picked
returns-in_err-resize-clause-picked g c = grind (arith, common_steps)

pub returns-in_err-resize-clause-why : goal.returns-in_err-resize-clause-why
returns-in_err-resize-clause-why g c = grind (arith, common_steps)

pub returns-in_err-resize-clause-frame : goal.returns-in_err-resize-clause-frame
returns-in_err-resize-clause-frame g c = grind (arith, common_steps)

pub returns-in_err-resize-clause-told : goal.returns-in_err-resize-clause-told
returns-in_err-resize-clause-told g c = grind (arith, common_steps)

pub returns-clause-picked : goal.returns-clause-picked
returns-clause-picked g c = grind (arith, common_steps)

pub returns-clause-why : goal.returns-clause-why
returns-clause-why g c = grind (arith, common_steps)

pub returns-clause-frame : goal.returns-clause-frame
returns-clause-frame g c = grind (arith, common_steps)

pub returns-clause-told : goal.returns-clause-told
returns-clause-told g c = grind (arith, common_steps)
