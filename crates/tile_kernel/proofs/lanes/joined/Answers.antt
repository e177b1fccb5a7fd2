-- Where the marks joined bit by bit are not negative, none of them is.
use Rattle.tile_kernel.proofs.Pairs.{sure_of_joined}
use Rattle.tile_kernel.proofs.lanes.joined.Goals as goal

pub returns : goal.returns
returns c = sure_of_joined c.args.marks c.requires
