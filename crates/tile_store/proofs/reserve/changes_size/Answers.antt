-- What a change gives a tile is an entry.
use Rattle.std.proofs.Common.{subst, sym, ◌≡◌, ◌∙◌, ℕ, Option, Some}
use Rattle.tile_index.specs.declared.entry.Entry.{Entry}
use Rattle.tile_store.proofs.reserve.changes_size.Goals as goal

pub entry_size-size-requires : goal.entry_size-size-requires
entry_size-size-requires c = λ e some.
    c.requires.entries c.loop-tile._tile-index c.loop-tile-item.result c.loop-tile-test.true e (subst (λ (y : ℕ × Option Entry). y.1 ≡ Some e) c.loop-tile-item.is (sym c.as_ref.ensures.value ∙ some))
