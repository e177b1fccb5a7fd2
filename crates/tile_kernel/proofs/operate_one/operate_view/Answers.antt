-- Of one outcome at all places the column is one.
use Rattle.std.proofs.Common.{◌∙◌}
use Rattle.tile_kernel.proofs.Places.{operated_one_scalar}
use Rattle.tile_kernel.proofs.operate_one.operate_view.Goals as goal

pub returns-in-Same : goal.returns-in-Same
returns-in-Same c = c.fill.ensures ∙ operated_one_scalar c.args.op _ _ _ _ _ _ _ c.operate.result c.in-Same.is c.operand.view_is c.operand.invariant c.operate.ensures
