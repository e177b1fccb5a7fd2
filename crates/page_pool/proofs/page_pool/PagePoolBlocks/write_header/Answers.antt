-- The pool stands for the blocks below it, of which the header alone moves.
use Rattle.page_pool.proofs.page_pool.PagePoolBlocks.write_header.Goals as goal

pub returns-clause-frame : goal.returns-clause-frame
returns-clause-frame g c = rw (← c.self.view_is) c.write_header.ensures.frame
