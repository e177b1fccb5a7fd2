-- The steps at a place are those of the tree that is typed there.
use Rattle.plan_rewrite.proofs.LoweredQueries.{lowered-tree-at}
use Rattle.plan_rewrite.proofs.lowering.query.lowered_at.Goals as goal

pub returns : goal.returns
returns c = lowered-tree-at c.in_ok-tree.field-0 _ c.in-Some.tree c.in_ok-tree.ensures c.in-Some.is _ c.in_ok-lowered_steps.ensures
