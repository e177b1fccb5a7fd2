-- One more place of the run stands at the end.
use Rattle.tile_columns.proofs.ByRows.{run_more}
use Rattle.tile_columns.proofs.part.push_run.Goals as goal

pub loop-k-preserved : goal.loop-k-preserved
loop-k-preserved c = run_more c.args.list.now.items c.loop-k.list.items c.push.new.self.items c.args.first c.loop-k.k c.loop-k.invariant c.in_ok-push.ensures.items
