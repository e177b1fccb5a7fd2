-- The first of the blocks that were taken are in use and may be given back; then none has a name any more.
use Rattle.std.proofs.Common.{◌∙◌}
use Rattle.block_file.specs.View.{state_of}
use Rattle.server_tests.proofs.Taken.{fresh_none, covers_part}
use Rattle.server_tests.proofs.storage.blocks.Volume.give_back.Goals as goal

pub give_back-requires : goal.give_back-requires
give_back-requires c = covers_part c.args.count c.self.inside.taken.items _ (state_of c.self.inside.file) (c.deref.ensures.value ∙ c.truncate.ensures.items) c.self.invariant

pub invariant_of-self : goal.invariant_of-self
invariant_of-self c = fresh_none _ (state_of c.give_back.new.self) c.clear.ensures.items
