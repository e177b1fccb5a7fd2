-- No block has a name while others are taken, held and released.
use Rattle.block_file.specs.View.{state_of}
use Rattle.server_tests.proofs.Taken.{fresh_none}
use Rattle.server_tests.proofs.storage.blocks.Volume.hold.Goals as goal

pub invariant_of-self : goal.invariant_of-self
invariant_of-self c = fresh_none _ (state_of c.take.new.self) c.clear.ensures.items

pub invariant_of-self-in_err-hold : goal.invariant_of-self-in_err-hold
invariant_of-self-in_err-hold c = fresh_none _ (state_of c.hold.new.self) c.clear.ensures.items

pub invariant_of-self-in_err-others : goal.invariant_of-self-in_err-others
invariant_of-self-in_err-others c = fresh_none _ (state_of c.take-2.new.self) c.clear.ensures.items

pub invariant_of-self-2 : goal.invariant_of-self-2
invariant_of-self-2 c = fresh_none _ (state_of c.give_back-2.new.self) c.clear.ensures.items
