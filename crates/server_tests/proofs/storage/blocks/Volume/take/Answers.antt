-- Where no more blocks are taken, those that were taken before are in use as they were.
use Rattle.std.proofs.Common.{ap}
use Rattle.block_file.specs.State.{BlocksState}
use Rattle.block_file.specs.View.{state_of}
use Rattle.server_tests.proofs.Taken.{fresh_still}
use Rattle.server_tests.proofs.storage.blocks.Volume.take.Goals as goal

pub invariant_of-self : goal.invariant_of-self
invariant_of-self c = fresh_still c.self.inside.taken.items (state_of c.self.inside.file) (state_of c.take.new.self) c.self.invariant (ap (λ (s : BlocksState). s.uses) c.in_err-self-inside.ensures.refused)
