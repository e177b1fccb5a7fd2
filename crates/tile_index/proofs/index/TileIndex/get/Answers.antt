-- The entry that the search finds is that of the tile, and where it finds none the tile has none.
use Rattle.std.proofs.Common.{ℕ, [], Ok, Err, rules}
use Rattle.std.proofs.lemmas.List.Sorted.{answers_always}
use Rattle.file_bytes.specs.declared.form.Form.TheVariants.{Runs}
use Rattle.tile_index.specs.declared.entry.Entry.{Entry}
use Rattle.tile_index.proofs.Found.{searched}
use Rattle.tile_index.proofs.index.TileIndex.get.Goals as goal

pub returns-in-Ok : goal.returns-in-Ok
returns-in-Ok c =
    let slice = c.as_slice-entries in
    let found = c.in-Ok.ensures.position (λ pair. pair.0) (answers_always _ _ _ (λ f a r g called. search rules)) in
    searched c.args.tile slice.result.now c.args.self.now c.index-entries-place.result (Ok c.in-Ok.place) slice.ensures.pairs slice.ensures.index.pairs.rising c.in-Ok.ensures.bound found

pub returns-in-Err : goal.returns-in-Err
returns-in-Err c =
    let slice = c.as_slice-entries in
    let none : ℕ × Entry = (0, record { form = Runs; length = 0; blocks = [] }) in
    let found = c.in-Err.ensures.position (λ pair. pair.0) (answers_always _ _ _ (λ f a r g called. search rules)) in
    searched c.args.tile slice.result.now c.args.self.now none (Err c.in-Err.field-0) slice.ensures.pairs slice.ensures.index.pairs.rising c.in-Err.ensures.bound found
