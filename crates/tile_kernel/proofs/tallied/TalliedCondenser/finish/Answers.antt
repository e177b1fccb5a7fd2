-- What it condenses is what it keeps.
use Rattle.tile_kernel.proofs.tallied.TalliedCondenser.finish.Goals as goal

pub returns : goal.returns
returns g c = λ told h. c.finish.ensures told h.1
