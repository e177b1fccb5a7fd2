-- New places add nothing.
use Rattle.std.proofs.Common.{inl, inr}
use Rattle.raster_store.proofs.decoded.DecodedTiles.mark.Goals as goal

pub returns : goal.returns
returns c = λ j known found. elim (c.put_mark.ensures j known found) [ inl was ↦ inl (c.make_places.ensures j known was) | inr same ↦ inr same ]
