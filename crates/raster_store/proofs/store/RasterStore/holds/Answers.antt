-- A place of the job is one of what is held.
use Rattle.raster_store.proofs.Snapshots.{held_some, unheld}
use Rattle.raster_store.proofs.store.RasterStore.holds.Goals as goal

pub returns-in-Some-clause-some : goal.returns-in-Some-clause-some
returns-in-Some-clause-some g c = rw (← c.self.view_is) (held_some _ _ _ _ (rw c.deref.ensures.value at c.in-Some.ensures.some))

pub returns-in-None-clause-none : goal.returns-in-None-clause-none
returns-in-None-clause-none g c = rw (← c.self.view_is) (unheld _ c.args.job _ (rw c.deref.ensures.value at c.in-None.ensures.none)).0
