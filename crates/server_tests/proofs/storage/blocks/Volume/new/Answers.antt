-- A new volume has no block that was taken.
use Rattle.block_file.specs.View.{state_of}
use Rattle.server_tests.proofs.Taken.{fresh_none}
use Rattle.server_tests.proofs.storage.blocks.Volume.new.Goals as goal

pub invariant_of-result : goal.invariant_of-result
invariant_of-result c = fresh_none _ (state_of c.args.file) c.new.ensures.items
