-- Each lane is the number of its comparison.
use Rattle.tile_kernel.proofs.Pairs.{chosen_pair, less_tried}
use Rattle.tile_kernel.proofs.lane_operations.IsLessLaneTrial.tried_pair.Goals as goal

pub returns-clause-values : goal.returns-clause-values
returns-clause-values c = chosen_pair _ c.args.x c.args.y c.requires.left c.requires.right

pub returns-clause-tried : goal.returns-clause-tried
returns-clause-tried c = less_tried c.args.x c.args.y c.requires.left c.requires.right
