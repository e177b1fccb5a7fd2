-- A note adds no tile.
use Rattle.std.proofs.Common.{inl, inr}
use Rattle.raster_store.proofs.decoded.DecodedTiles.keep_runs.Goals as goal

pub returns-then-note : goal.returns-then-note
returns-then-note c = λ j known found. elim (c.put_runs.ensures j known found) [ inl was ↦ inl (c.note.ensures j known was) | inr same ↦ inr same ]

pub returns-else-note : goal.returns-else-note
returns-else-note c = λ j known kept. inl (c.note.ensures j known kept)
