-- The lanes are two numbers, each 1 or 0.
use Rattle.tile_kernel.proofs.Pairs.{chosen_pair, zeros_pair}
use Rattle.tile_kernel.proofs.lane_operations.truths.Goals as goal

pub returns-clause-lanes : goal.returns-clause-lanes
returns-clause-lanes c = chosen_pair _ c.args.x _ c.requires zeros_pair
