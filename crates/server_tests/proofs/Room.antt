-- Room in an index for one more tile.
use Rattle.std.proofs.Common.{◌≡◌, ℕ, ◌<◌, Bool, true, false, cond, List, [], ◌∷◌, arith, refl, Option, Some, None}
use Rattle.std.specs.Prelude.{◌==◌}
use Rattle.std.proofs.lemmas.Bool.Decides.{nat_tests}
use Rattle.tile_index.specs.declared.entry.Entry.{Entry}
use Rattle.tile_index.specs.Entries.{IsEntry}
use Rattle.tile_index.specs.Index.{found_at, changed_at, AreEntries}

-- the last tile is listed no more after a change of one below it
pub free_last : (tile : ℕ) (entry : Option Entry) (items : List (ℕ × Option Entry)) (index : List (ℕ × Entry)) → items ≡ (tile, entry) ∷ [] → tile < 4294967295 → found_at 4294967295 index ≡ None → changed_at 4294967295 items index ≡ None
free_last tile entry items index is below none =
    let other : (4294967295 == tile) ≡ false = grind (arith, nat_tests, below) in
    rw is (rw (other, none) refl)

-- what a change of one tile gives is an entry
pub one_entry : (tile : ℕ) (entry : Option Entry) (items : List (ℕ × Option Entry)) → items ≡ (tile, entry) ∷ [] → ((e : Entry) → entry ≡ Some e → IsEntry e) → AreEntries items
one_entry tile entry items is sound t e found = at (t == tile) refl (rw is at found)
  where
    at : (b : Bool) → (t == tile) ≡ b → cond b (Some entry) None ≡ Some (Some e) → IsEntry e
    at true same q = sound e (cc)
    at false other q = absurd (cc)
