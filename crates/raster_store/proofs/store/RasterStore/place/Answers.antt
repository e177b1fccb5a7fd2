-- The place of the name among the coverages as they are held.
use Rattle.raster_store.proofs.Readings.{place_of_name}
use Rattle.raster_store.proofs.store.RasterStore.place.Goals as goal

pub returns-in-Some-clause-some : goal.returns-in-Some-clause-some
returns-in-Some-clause-some g c =
    rw (← c.self.view_is) (place_of_name _ c.self.inside.coverages.items c.args.name.now c.in-Some.place (rw c.deref.ensures.value at c.in-Some.ensures.some))
