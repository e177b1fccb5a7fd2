-- There is room for as many blocks as in the file below.
use Rattle.page_pool.proofs.page_pool.PagePoolBlocks.take.Goals as goal

pub returns-clause-room : goal.returns-clause-room
returns-clause-room g c = rw (← c.self.view_is) c.take.ensures.room
