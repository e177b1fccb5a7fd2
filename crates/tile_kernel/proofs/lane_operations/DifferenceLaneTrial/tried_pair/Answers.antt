-- Where a mark is not negative, the difference in its lane has not wrapped.
use Rattle.tile_kernel.proofs.Pairs.{differences_pair, difference_marks_pair, differences_tried}
use Rattle.tile_kernel.proofs.lane_operations.DifferenceLaneTrial.tried_pair.Goals as goal

pub returns-clause-values : goal.returns-clause-values
returns-clause-values c = differences_pair c.args.x c.args.y c.requires.left c.requires.right

pub returns-clause-marks : goal.returns-clause-marks
returns-clause-marks c = difference_marks_pair c.args.x c.args.y c.requires.left c.requires.right

pub returns-clause-tried : goal.returns-clause-tried
returns-clause-tried c = differences_tried c.args.x c.args.y c.requires.left c.requires.right
