-- Whatever the order, the points in the order of their places are the same.
use Rattle.tile_kernel.proofs.Condensing.{in_any_order}
use Rattle.tile_kernel.proofs.condenser.finish_both.Goals as goal

pub returns : goal.returns
returns g c = in_any_order g.C.Condenser.op g.C.Condenser.stands c.args.a c.args.b c.merge.result c.finish.result c.merge.ensures.stands c.finish.ensures
