-- Of two outcomes, each the same at all places, the column is one.
use Rattle.std.proofs.Common.{◌∙◌}
use Rattle.tile_kernel.proofs.Places.{operated_scalars}
use Rattle.tile_kernel.proofs.operate.operate_views.Goals as goal

pub returns-in-Same-form : goal.returns-in-Same-form
returns-in-Same-form c = c.fill.ensures ∙ operated_scalars c.args.op _ _ _ _ _ _ _ _ _ _ _ _ _ _ c.operate_both.result c.in-Same.is c.in-Same-form.is c.left.view_is c.right.view_is c.left.invariant c.right.invariant c.requires c.operate_both.ensures
