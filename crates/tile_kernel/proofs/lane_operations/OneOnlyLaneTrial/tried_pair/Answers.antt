-- Each lane is the number of the truth values.
use lib.Bits.{bit_xor}
use Rattle.wcps_mean.specs.Cells.{differ}
use Rattle.tile_kernel.proofs.Pairs.{pair_again, xor_pair, xor_law, logic_tried}
use Rattle.tile_kernel.proofs.lane_operations.OneOnlyLaneTrial.tried_pair.Goals as goal

pub truths-requires : goal.truths-requires
truths-requires c = pair_again c.args.x c.requires.left

pub truths-requires-2 : goal.truths-requires-2
truths-requires-2 c = pair_again c.args.y c.requires.right

pub returns-clause-values : goal.returns-clause-values
returns-clause-values c = xor_pair c.truths.result c.truths-2.result c.truths.ensures.lanes c.truths-2.ensures.lanes

pub returns-clause-tried : goal.returns-clause-tried
returns-clause-tried c = logic_tried bit_xor (differ) xor_law c.args.x c.args.y c.truths.result c.truths-2.result c.requires.left c.requires.right c.truths.ensures.lanes c.truths-2.ensures.lanes c.truths.ensures.truths c.truths-2.ensures.truths
