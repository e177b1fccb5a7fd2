-- The number of places that is kept is how many outcomes there are.
use Rattle.tile_kernel.proofs.Places.{places_are}
use Rattle.tile_kernel.proofs.view.View.len.Goals as goal

pub returns-clause-places : goal.returns-clause-places
returns-clause-places c = places_are _ _ _ _ _ _ c.self.view_is c.self.invariant
