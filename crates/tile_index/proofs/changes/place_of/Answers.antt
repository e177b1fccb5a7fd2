-- The place that the search finds is that of the tile's pair, and where it finds none the tile has none.
use Rattle.std.proofs.Common.{ℕ, [], Err, refl, sym, arith, rules}
use Rattle.std.proofs.lemmas.Bool.Decides.{nat_tests}
use Rattle.std.proofs.lemmas.List.Sorted.{answers_always}
use Rattle.file_bytes.specs.declared.form.Form.TheVariants.{Runs}
use Rattle.tile_index.specs.declared.entry.Entry.{Entry}
use Rattle.tile_index.proofs.Found.{searched}
use Rattle.tile_index.proofs.changes.place_of.Goals as goal

pub returns-in-Ok-clause-place : goal.returns-in-Ok-clause-place
returns-in-Ok-clause-place c =
    let found = c.in-Ok.ensures.position (λ pair. pair.0) (answers_always _ _ _ (λ f a r g called. search rules)) in
    (c.in-Ok.ensures.bound, λ d. grind (arith, nat_tests, found d))

pub returns-in-Err-clause-none : goal.returns-in-Err-clause-none
returns-in-Err-clause-none c =
    let none : ℕ × Entry = (0, record { form = Runs; length = 0; blocks = [] }) in
    let found = c.in-Err.ensures.position (λ pair. pair.0) (answers_always _ _ _ (λ f a r g called. search rules)) in
    sym (searched c.args.tile c.args.entries.now c.args.entries.now none (Err c.in-Err.field-0) refl c.requires c.in-Err.ensures.bound found)
