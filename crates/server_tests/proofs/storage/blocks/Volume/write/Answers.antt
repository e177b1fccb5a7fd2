-- A block that was taken is in use once, and so it may be written.
use Rattle.std.proofs.Common.{arith}
use Rattle.block_file.specs.View.{state_of}
use Rattle.server_tests.proofs.Taken.{used_once}
use Rattle.server_tests.proofs.storage.blocks.Volume.write.Goals as goal

pub write-requires : goal.write-requires
write-requires c = used_once c.self.inside.taken.items (state_of c.self.inside.file) c.args.place _ c.self.invariant (omega arith) c.index-block.ensures
