-- Each lane is a number that says whether the operands are the same.
use Rattle.tile_kernel.proofs.Pairs.{chosen_pair}
use Rattle.tile_kernel.proofs.lane_operations.IsEqualLaneTrial.tried_pair.Goals as goal

pub returns-clause-values : goal.returns-clause-values
returns-clause-values c = chosen_pair _ c.args.x c.args.y c.requires.left c.requires.right
