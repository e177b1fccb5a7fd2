-- In the order of their places, the points that it was told of condense to its outcome.
use Rattle.tile_kernel.specs.Told.{outcomes}
use Rattle.tile_kernel.proofs.Merges.{fed_in_order}
use Rattle.tile_kernel.proofs.accumulator.Accumulator.finish.Goals as goal

pub returns : goal.returns
returns c = λ told s ordered o. c.finish.ensures (outcomes ordered) (fed_in_order c.args.self told ordered s o.same o.rising)
