-- Four times two more places.
use Rattle.std.proofs.Common.{arith}
use Rattle.tile_kernel.proofs.Pairs.{pair_again, sure_before}
use Rattle.tile_kernel.proofs.lanes.try_block.Goals as goal

pub try_pair-a-requires-clause-marks : goal.try_pair-a-requires-clause-marks
try_pair-a-requires-clause-marks g c = pair_again _ c.requires.marks

pub try_pair-b-requires-clause-marks : goal.try_pair-b-requires-clause-marks
try_pair-b-requires-clause-marks g c = pair_again _ c.try_pair-a.ensures.marks

pub try_pair-c-requires-clause-marks : goal.try_pair-c-requires-clause-marks
try_pair-c-requires-clause-marks g c = pair_again _ c.try_pair-b.ensures.marks

pub try_pair-requires-clause-marks : goal.try_pair-requires-clause-marks
try_pair-requires-clause-marks g c = pair_again _ c.try_pair-c.ensures.marks

pub returns-clause-marks : goal.returns-clause-marks
returns-clause-marks g c = pair_again _ c.try_pair.ensures.marks

pub returns-clause-tried : goal.returns-clause-tried
returns-clause-tried g c = λ kept sure.
    λ k l. c.try_pair.ensures.tried (λ t k l. c.try_pair-c.ensures.tried (λ s k l. c.try_pair-b.ensures.tried (λ r k l. c.try_pair-a.ensures.tried
    (λ q. kept (sure_before c.args.marks c.requires.marks q))
    (sure_before c.try_pair-a.result c.try_pair-a.ensures.marks r) k (omega arith))
    (sure_before c.try_pair-b.result c.try_pair-b.ensures.marks s) k (omega arith))
    (sure_before c.try_pair-c.result c.try_pair-c.ensures.marks t) k (omega arith))
    (sure_before c.try_pair.result c.try_pair.ensures.marks sure) k (omega arith)
