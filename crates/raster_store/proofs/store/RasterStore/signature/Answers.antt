-- The coverage that is found stands at the place of its name.
use Rattle.std.proofs.Common.{refl}
use Rattle.raster_store.proofs.Readings.{known}
use Rattle.raster_store.proofs.Contents.{found_named}
use Rattle.raster_store.proofs.store.RasterStore.signature.Goals as goal

pub returns-in-Some : goal.returns-in-Some
returns-in-Some g c =
    let at = rw c.deref.ensures.value at c.in-Some.ensures.some in
    let k = known _ _ c.in-Some.place _ c.self.invariant.is_held (rw c.deref.ensures.value at c.in-Some.ensures.within) c.index.ensures in
    rw (← c.self.view_is, (found_named (g.B.Blocks.state c.self.inside.blocks).content c.args.name.now 0 _ c.in-Some.place at).0, k.at) refl
