-- A block that is not among the pages is read below, which changes nothing but the count of failures.
use Rattle.page_pool.proofs.page_pool.PagePoolBlocks.read.Goals as goal

pub returns-in_err-read-clause-frame : goal.returns-in_err-read-clause-frame
returns-in_err-read-clause-frame g c = rw (← c.self.view_is) c.in_err-read.ensures.frame

pub returns-clause-frame : goal.returns-clause-frame
returns-clause-frame g c = rw (← c.self.view_is) c.in_ok-read.ensures.frame
