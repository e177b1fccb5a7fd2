-- Where a mark is not negative, the sum in its lane has not wrapped.
use Rattle.tile_kernel.proofs.Pairs.{sums_pair, sum_marks_pair, sums_tried}
use Rattle.tile_kernel.proofs.lane_operations.SumLaneTrial.tried_pair.Goals as goal

pub returns-clause-values : goal.returns-clause-values
returns-clause-values c = sums_pair c.args.x c.args.y c.requires.left c.requires.right

pub returns-clause-marks : goal.returns-clause-marks
returns-clause-marks c = sum_marks_pair c.args.x c.args.y c.requires.left c.requires.right

pub returns-clause-tried : goal.returns-clause-tried
returns-clause-tried c = sums_tried c.args.x c.args.y c.requires.left c.requires.right
