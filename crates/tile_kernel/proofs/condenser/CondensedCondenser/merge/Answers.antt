-- It stands for the points of both, in either order.
use Rattle.tile_kernel.proofs.Condensing.{merged, merged_turned}
use Rattle.tile_kernel.proofs.condenser.CondensedCondenser.merge.Goals as goal

pub returns-clause-stands : goal.returns-clause-stands
returns-clause-stands g c = merged g.S.Summary.keeps c.args.self.summary c.args.other.summary c.with.result _ _ _ _ _ _ c.least.ensures c.with.ensures.keeps

pub returns-clause-turned : goal.returns-clause-turned
returns-clause-turned g c = merged_turned g.S.Summary.keeps c.args.self.summary c.args.other.summary c.with.result _ _ _ _ _ _ c.least.ensures c.with.ensures.keeps
