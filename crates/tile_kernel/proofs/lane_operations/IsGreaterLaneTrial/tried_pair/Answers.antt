-- The comparison with the operands exchanged.
use Rattle.tile_kernel.proofs.Pairs.{pair_again, turned}
use Rattle.tile_kernel.proofs.lane_operations.IsGreaterLaneTrial.tried_pair.Goals as goal

pub tried_pair-requires-clause-left : goal.tried_pair-requires-clause-left
tried_pair-requires-clause-left c = pair_again c.args.y c.requires.right

pub tried_pair-requires-clause-right : goal.tried_pair-requires-clause-right
tried_pair-requires-clause-right c = pair_again c.args.x c.requires.left

pub returns-clause-tried : goal.returns-clause-tried
returns-clause-tried c = turned _ c.args.x c.args.y _ _ c.requires.left c.requires.right c.tried_pair.ensures.tried
