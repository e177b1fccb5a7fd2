-- The blocks are read below, which changes nothing but the count of failures.
use Rattle.page_pool.proofs.page_pool.PagePoolBlocks.read_run.Goals as goal

pub returns-clause-frame : goal.returns-clause-frame
returns-clause-frame g c = rw (← c.self.view_is) c.read_run.ensures.frame
