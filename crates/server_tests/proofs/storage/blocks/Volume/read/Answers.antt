-- A block that was taken is in use, and reading it changes no block's use.
use Rattle.std.proofs.Common.{arith}
use Rattle.block_file.specs.View.{state_of}
use Rattle.server_tests.proofs.Taken.{fresh_still, used_some}
use Rattle.server_tests.proofs.storage.blocks.Volume.read.Goals as goal

pub read-requires : goal.read-requires
read-requires c = used_some c.self.inside.taken.items (state_of c.self.inside.file) c.args.place _ c.self.invariant (omega arith) c.index-block.ensures

pub invariant_of-self : goal.invariant_of-self
invariant_of-self c = fresh_still c.self.inside.taken.items (state_of c.self.inside.file) (state_of c.read.new.self) c.self.invariant c.read.ensures.frame.uses
