-- An index after changes of some tiles, and its blocks.
use Rattle.std.proofs.Common.{◌≡◌, ℕ, ◌<◌, ◌≤◌, ◌^◌, List, length, get_or, arith, refl, sym, ◌∙◌, ◌⊎◌, inl, inr, Option, Some, None, All, Contains}
use Rattle.std.specs.List.Sorted.{IsStrictlyIncreasing}
use Rattle.std.proofs.lemmas.List.{get_or-map, length-map}
use Rattle.std.proofs.lemmas.List.Kept.{AllPairs-from_increasing}
use Rattle.tile_index.specs.declared.entry.Entry.{Entry}
use Rattle.tile_index.specs.Entries.{IsEntry}
use Rattle.tile_index.specs.Index.{found_at, changed_at, IsRising, IsIndex}
use Rattle.tile_index.proofs.Found.{found_of_place, found_is}
use Rattle.tile_store.specs.Listing.{tiles_of, AreChanges}
use Rattle.tile_store.proofs.Sums.{Ranked, ranked_from}

-- something is there or nothing
pub some_or : {X : Type 0} (o : Option X) → ((v : X) × (o ≡ Some v)) ⊎ (o ≡ None)
some_or None = inr refl
some_or (Some v) = inl (v, refl)

-- a changed tile is found among the changes
pub change_of : (n t : ℕ) (changes : List (ℕ × Option Entry)) → AreChanges n changes → Contains (tiles_of changes) t → (v : Option Entry) × (found_at t changes ≡ Some v)
change_of n t changes are (k, h, is) =
    let within : k < length changes = omega (arith, h, length-map changes (λ (x : ℕ × Option Entry). x.0)) in
    let tile : (get_or changes k (t, None)).0 ≡ t = sym (get_or-map (λ (x : ℕ × Option Entry). x.0) changes k (t, None) t within) ∙ is in
    (_, rw tile at (found_of_place changes k (t, None) are.rising within))

-- and a tile that is found among them is changed
pub found_listed : (t : ℕ) (changes : List (ℕ × Option Entry)) (v : Option Entry) → found_at t changes ≡ Some v → Contains (tiles_of changes) t
found_listed t changes v found =
    found_is (λ (x : ℕ × Option Entry). Contains (tiles_of changes) x.0) t changes v
    (λ k d l. (k, omega (arith, l, length-map changes (λ (x : ℕ × Option Entry). x.0)), get_or-map (λ (x : ℕ × Option Entry). x.0) changes k d (get_or changes k d).0 l)) found

-- the new index has no tile past the bound
pub below_changed : (n : ℕ) (old new : List (ℕ × Entry)) (changes : List (ℕ × Option Entry)) → IsRising new → All (λ (x : ℕ × Entry). x.0 < n) old → All (λ (x : ℕ × Option Entry). x.0 < n) changes
    → ((t : ℕ) → found_at t new ≡ changed_at t changes old) → All (λ (x : ℕ × Entry). x.0 < n) new
below_changed n old new changes rising a b gives k d l =
    let t = (get_or new k d).0 in
    elim (some_or (found_at t changes)) [
      | inl c ↦ found_is (λ (x : ℕ × Option Entry). x.0 < n) t changes c.0 b c.1
      | inr none ↦ found_is (λ (x : ℕ × Entry). x.0 < n) t old (get_or new k d).1 a (sym (rw none at (gives t)) ∙ found_of_place new k d rising l)
    ]

-- tiles that rise, with what they become
pub changes_of : (n : ℕ) (changes : List (ℕ × Option Entry)) → IsStrictlyIncreasing (tiles_of changes) → All (λ t. t < n) (tiles_of changes) → All (λ (x : ℕ × Option Entry). (e : Entry) → x.1 ≡ Some e → IsEntry e) changes → AreChanges n changes
changes_of n changes rising below entries =
    let size = length-map changes (λ (x : ℕ × Option Entry). x.0) in
    let tile = λ (i : ℕ) (d : ℕ × Option Entry) (h : i < length changes). get_or-map (λ (x : ℕ × Option Entry). x.0) changes i d d.0 h in
    record {
      rising = λ i j d lt within. omega (arith, AllPairs-from_increasing (tiles_of changes) rising i j d.0 lt (omega arith), tile i d (omega arith), tile j d within);
      below = λ i d h. omega (arith, below i d.0 (omega arith), tile i d h);
      entries = entries;
    }

pub ranked_changes : (n m : ℕ) (changes : List (ℕ × Option Entry)) → n ≤ m → AreChanges n changes → Ranked m changes
ranked_changes n m changes le are = ranked_from m changes are.rising (λ k d h. (let low = are.below k d h in omega (arith, low, le)))

pub ranked_index : (index : List (ℕ × Entry)) → IsIndex index → Ranked (2 ^ 32) index
ranked_index index is = ranked_from (2 ^ 32) index is.pairs.rising (λ k d h. (is.pairs.each k d h).0)
