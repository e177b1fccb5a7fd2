-- Two more places have the operation's results, unless some mark so far is negative.
use Rattle.std.proofs.Common.{arith}
use Rattle.std.proofs.lemmas.Grind.{common_steps}
use Rattle.tile_kernel.proofs.Pairs.{or_pair, goes_on}
use Rattle.tile_kernel.proofs.lanes.try_pair.Goals as goal

pub returns-clause-marks : goal.returns-clause-marks
returns-clause-marks g c = or_pair c.args.marks c.tried_pair-tried.result.marks c.requires.marks c.tried_pair-tried.ensures.marks

pub returns-clause-tried : goal.returns-clause-tried
returns-clause-tried g c = goes_on g.O.Trial.exact (g.L.Operand.value c.args.left.now) (g.R.Operand.value c.args.right.now) c.args.place c.args.out.now c.pair.result c.pair-2.result
    c.tried_pair-tried.result.values c.args.marks c.tried_pair-tried.result.marks c.requires.out c.pair.ensures.lanes c.pair-2.ensures.lanes
    c.tried_pair-tried.ensures.values c.requires.marks c.tried_pair-tried.ensures.marks c.pair.ensures.values c.pair-2.ensures.values c.tried_pair-tried.ensures.tried

pub tried_pair-tried-requires-clause-left : goal.tried_pair-tried-requires-clause-left
tried_pair-tried-requires-clause-left g c = grind (arith, common_steps)

pub tried_pair-tried-requires-clause-right : goal.tried_pair-tried-requires-clause-right
tried_pair-tried-requires-clause-right g c = grind (arith, common_steps)
