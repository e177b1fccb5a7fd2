-- The header changes no block's use, and so those that were taken stay in use.
use Rattle.block_file.specs.View.{state_of}
use Rattle.server_tests.proofs.Taken.{fresh_still}
use Rattle.server_tests.proofs.storage.blocks.Volume.write_header.Goals as goal

pub invariant_of-self : goal.invariant_of-self
invariant_of-self c = fresh_still c.self.inside.taken.items (state_of c.self.inside.file) (state_of c.write_header-outcome.new.self) c.self.invariant c.write_header-outcome.ensures.frame.uses
