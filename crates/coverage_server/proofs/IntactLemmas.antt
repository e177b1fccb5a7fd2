-- Of what is held for jobs: which coverages are intact, and that they stay so.
use Rattle.std.proofs.Common.{◌≡◌, ℕ, zero, suc, ◌<◌, ◌≤◌, nat_eq, Bool, true, false, List, [], ◌∷◌, ◌++◌, length, map, Option, None, Some, refl, sym, ap, ◌∙◌, subst, arith, inl, inr, Contains}
use Rattle.std.specs.Prelude.{All, IsSomeAnd, slice_get, slice_index_or, sum_by}
use Rattle.std.proofs.lemmas.Bool.{cases_lt}
use Rattle.std.proofs.lemmas.List.Elements.{All-contains}
use Rattle.std.proofs.lemmas.List.Sums.{sum_by-cons}
use Rattle.arr_core.specs.declared.field.Field.{Field}
use Rattle.arr_core.specs.Names.{AreDistinct}
use Rattle.arr_core.specs.Stores.{Coverage, Store}
use Rattle.arr_core.specs.Tiles.{tile_boxes}
use Rattle.block_file.specs.State.{block_at}
use Rattle.catalogue.specs.Signatures.{names_of}
use Rattle.tile_store.specs.Listing.{listed}
use Rattle.tile_store.specs.Stored.{IsTileSpelled}
use Rattle.tile_store.proofs.Kept.{tile_kept}
use Rattle.raster_store.specs.Snapshots.{AreCopied, held_for, without_job}
use Rattle.raster_store.specs.Views.{Index, SnapshotView, listed_all, listed_fields, listed_snapshots}
use Rattle.raster_store.proofs.Snapshots.{no_field_lists}
use Rattle.coverage_server.specs.Damage.{IsIntactIn, IsIntactHeld, AreIntactHeld, AreHeldWhole, IsSpelledPlace}
use Rattle.coverage_server.specs.Runs.{names_for, without_number}
use Rattle.coverage_server.specs.Views.{signatures_of}
use Rattle.coverage_server.proofs.DamageLemmas.{at_place}
use Rattle.coverage_server.proofs.HeldLemmas.{lists-cons, lists_left, lists_push, copied_lists}

some_map : {X : Type 0} (o : Option X) (P Q : X → Type 0) → ((x : X) → P x → Q x) → IsSomeAnd o P → IsSomeAnd o Q
some_map None P Q f h = absurd h
some_map (Some x) P Q f h = f x h

-- ---- where the blocks hold what they held

default_sum : {X : Type 0} (F : X → ℕ) (xs : List X) (n : ℕ) (d : X) → F d ≡ 0 → F (slice_index_or xs n d) ≤ sum_by F xs
default_sum F [] n d e = omega (arith, e)
default_sum F (x ∷ xs) zero d e = omega (arith, sum_by-cons F x xs)
default_sum F (x ∷ xs) (suc n) d e = let rest = default_sum F xs n d e in omega (arith, rest, sum_by-cons F x xs)

lists_nothing : (k : ℕ) → listed [] k ≡ 0
unfolding listed
lists_nothing k = refl

field_slot : (fields : List Index) (field k : ℕ) → listed (slice_index_or fields field []) k ≤ listed_fields fields k
unfolding listed_fields
field_slot fields field k = default_sum (λ (i : Index). listed i k) fields field [] (lists_nothing k)

place_slot : (indexes : List (List Index)) (place k : ℕ) → listed_fields (slice_index_or indexes place []) k ≤ listed_all indexes k
unfolding listed_all
place_slot indexes place k = default_sum (λ (fields : List Index). listed_fields fields k) indexes place [] (no_field_lists k)

place_kept : (old new : List ℕ) (x : SnapshotView) → ((k : ℕ) → 0 < listed_all x.indexes k → block_at new k ≡ block_at old k)
    → (place : ℕ) → IsSpelledPlace old x.coverages x.indexes place → IsSpelledPlace new x.coverages x.indexes place
place_kept old new x kept place spelled at is has =
    let index : Index = slice_index_or (slice_index_or x.indexes at.coverage []) at.field [] in
    some_map (slice_get x.coverages at.coverage)
    (λ (c : Coverage). IsSomeAnd (slice_get c.fields at.field) (λ (f : Field). IsTileSpelled f.kind c.domain index old at.tile))
    (λ (c : Coverage). IsSomeAnd (slice_get c.fields at.field) (λ (f : Field). IsTileSpelled f.kind c.domain index new at.tile))
    (λ c y. some_map (slice_get c.fields at.field)
    (λ (f : Field). IsTileSpelled f.kind c.domain index old at.tile)
    (λ (f : Field). IsTileSpelled f.kind c.domain index new at.tile)
    (λ f z. tile_kept f.kind c.domain index old new at.tile
    (λ k more.
    let inner = field_slot (slice_index_or x.indexes at.coverage []) at.field k in
    let outer = place_slot x.indexes at.coverage k in
    kept k (omega (arith, inner, outer, more))) z) y) (spelled at is has)

pub held_kept : (old new : List ℕ) (held : List SnapshotView) (names : List (ℕ × List (List ℕ)))
    → ((k : ℕ) → 0 < listed_snapshots held k → block_at new k ≡ block_at old k) → AreIntactHeld old held names
    → AreIntactHeld new held names
held_kept old new [] [] kept a = tt
held_kept old new [] (m ∷ names) kept a = absurd a
held_kept old new (x ∷ held) [] kept a = absurd a
held_kept old new (x ∷ held) (m ∷ names) kept a = (
  a.0,
  λ place here. place_kept old new x (λ k more. kept k (omega (arith, more, lists-cons x held k))) place (a.1 place here),
  held_kept old new held names (λ k more. kept k (omega (arith, more, lists-cons x held k))) a.2,
)

pub whole_kept : (old new : List ℕ) (held : List SnapshotView)
    → ((k : ℕ) → 0 < listed_snapshots held k → block_at new k ≡ block_at old k) → AreHeldWhole old held
    → AreHeldWhole new held
whole_kept old new held kept whole k more = ap (λ (b : List ℕ). length b) (kept k more) ∙ whole k more

-- ---- where it is let go

pub held_left : (content : List ℕ) (n : ℕ) (held : List SnapshotView) (names : List (ℕ × List (List ℕ)))
    → AreIntactHeld content held names → AreIntactHeld content (without_job n held) (without_number n names)
held_left content n [] [] a = tt
held_left content n [] (m ∷ names) a = absurd a
held_left content n (x ∷ held) [] a = absurd a
held_left content n (x ∷ held) (m ∷ names) a = by_test (nat_eq x.job n) refl (held_left content n held names a.2)
  where
    by_test : (b : Bool) → nat_eq x.job n ≡ b → AreIntactHeld content (without_job n held) (without_number n names)
        → AreIntactHeld content (without_job n (x ∷ held)) (without_number n (m ∷ names))
    by_test true t later = let u : nat_eq m.0 n ≡ true = ap (λ (z : ℕ). nat_eq z n) a.0 ∙ t in rw (t, u) a.2
    by_test false t later =
        let u : nat_eq m.0 n ≡ false = ap (λ (z : ℕ). nat_eq z n) a.0 ∙ t in rw (t, u) (a.0, a.1, later)

pub whole_left : (content : List ℕ) (n : ℕ) (held : List SnapshotView) → AreHeldWhole content held
    → AreHeldWhole content (without_job n held)
whole_left content n held whole k more = let fewer = lists_left n held k in whole k (omega (arith, fewer, more))

-- ---- where a job comes

pub held_push : (content : List ℕ) (held : List SnapshotView) (names : List (ℕ × List (List ℕ))) (x : SnapshotView)
    (m : ℕ × List (List ℕ)) → m.0 ≡ x.job → IsIntactHeld content m.1 x → AreIntactHeld content held names
    → AreIntactHeld content (held ++ x ∷ []) (names ++ m ∷ [])
held_push content [] [] x m is own a = (is, own, tt)
held_push content [] (l ∷ names) x m is own a = absurd a
held_push content (y ∷ held) [] x m is own a = absurd a
held_push content (y ∷ held) (l ∷ names) x m is own a = (a.0, a.1, held_push content held names x m is own a.2)

pub whole_push : (content : List ℕ) (store : Store) (indexes : List (List Index)) (held : List SnapshotView) (x : SnapshotView)
    → ((k : ℕ) → 0 < listed_all indexes k → length (block_at content k) ≡ 4096)
    → AreCopied store indexes x.coverages x.indexes → AreHeldWhole content held → AreHeldWhole content (held ++ x ∷ [])
whole_push content store indexes held x blocks picked whole k more =
    let both = lists_push held x k in
    elim (cases_lt 0 (listed_snapshots held k)) [
      | inl some ↦ whole k some
      | inr none ↦
          let own : 0 < listed_all x.indexes k = omega (arith, both, more, none) in
          blocks k (copied_lists store indexes x.coverages x.indexes k picked own)
    ]

index_is : {X : Type 0} (xs : List X) (n : ℕ) (x d : X) → slice_get xs n ≡ Some x → slice_index_or xs n d ≡ x
index_is [] n x d e = absurd cc
index_is (y ∷ xs) zero x d e = cc
index_is (y ∷ xs) (suc n) x d e = index_is xs n x d e

-- a coverage that is picked is spelled where the store's own is
copied_at : (content : List ℕ) (store : Store) (indexes : List (List Index)) (names : List (List ℕ))
    → AreDistinct (names_of (signatures_of store)) → All (IsIntactIn content store indexes) names
    → (picked : Store) (chosen : List (List Index)) (place field tile : ℕ) → AreCopied store indexes picked chosen
    → IsSomeAnd (slice_get picked place) (λ (c : Coverage). Contains names c.name)
    → IsSomeAnd (slice_get picked place) (λ (c : Coverage). field < length c.fields)
    → IsSomeAnd (slice_get picked place) (λ (c : Coverage). IsSomeAnd (slice_get c.fields field) (λ (f : Field).
    IsTileSpelled f.kind c.domain (slice_index_or (slice_index_or chosen place []) field []) content tile))
copied_at content store indexes names apart whole [] chosen place field tile p here within = absurd within
copied_at content store indexes names apart whole (c ∷ picked) [] place field tile p here within = absurd p
copied_at content store indexes names apart whole (c ∷ picked) (i ∷ chosen) zero field tile p here within =
    let from : ℕ = p.0.0 in
    let at : slice_get store from ≡ Some c = p.0.1 in
    let index : slice_index_or indexes from [] ≡ i = index_is indexes from i [] p.0.2 in
    let own = at_place content c.name field tile store indexes from apart
    (All-contains (IsIntactIn content store indexes) names c.name whole here)
    (subst (λ (o : Option Coverage). IsSomeAnd o (λ (d : Coverage). d.name ≡ c.name)) (sym at) refl)
    (subst (λ (o : Option Coverage). IsSomeAnd o (λ (d : Coverage). field < length d.fields)) (sym at) within) in
    subst (λ (j : List Index). IsSomeAnd (slice_get c.fields field) (λ (f : Field).
    IsTileSpelled f.kind c.domain (slice_index_or j field []) content tile)) index
    (subst (λ (o : Option Coverage). IsSomeAnd o (λ (d : Coverage). IsSomeAnd (slice_get d.fields field) (λ (f : Field).
    IsTileSpelled f.kind d.domain (slice_index_or (slice_index_or indexes from []) field []) content tile))) at own)
copied_at content store indexes names apart whole (c ∷ picked) (i ∷ chosen) (suc place) field tile p here within =
    copied_at content store indexes names apart whole picked chosen place field tile p.1 here within

pub copied_intact : (content : List ℕ) (store : Store) (indexes : List (List Index)) (names : List (List ℕ))
    → AreDistinct (names_of (signatures_of store)) → All (IsIntactIn content store indexes) names → (x : SnapshotView)
    → AreCopied store indexes x.coverages x.indexes → IsIntactHeld content names x
copied_intact content store indexes names apart whole x picked place here at is has =
    copied_at content store indexes names apart whole x.coverages x.indexes at.coverage at.field at.tile picked
    (subst (λ (n : ℕ). IsSomeAnd (slice_get x.coverages n) (λ (c : Coverage). Contains names c.name)) (sym is) here)
    (some_map (slice_get x.coverages at.coverage)
    (λ (c : Coverage). (at.field < length c.fields) × (at.tile < length (tile_boxes c.domain)))
    (λ (c : Coverage). at.field < length c.fields) (λ c h. h.0) has)

-- ---- what is found for a number

pub held_numbers : (content : List ℕ) (held : List SnapshotView) (names : List (ℕ × List (List ℕ)))
    → AreIntactHeld content held names
    → map (λ (m : ℕ × List (List ℕ)). m.0) names ≡ map (λ (x : SnapshotView). x.job) held
held_numbers content [] [] a = refl
held_numbers content [] (m ∷ names) a = absurd a
held_numbers content (x ∷ held) [] a = absurd a
held_numbers content (x ∷ held) (m ∷ names) a =
    ap (λ (n : ℕ). n ∷ map (λ (l : ℕ × List (List ℕ)). l.0) names) a.0
    ∙ ap (λ (l : List ℕ). x.job ∷ l) (held_numbers content held names a.2)

pub held_named : (content : List ℕ) (n : ℕ) (held : List SnapshotView) (names : List (ℕ × List (List ℕ))) (x : SnapshotView)
    → AreIntactHeld content held names → held_for n held ≡ Some x → IsIntactHeld content (names_for n names) x
held_named content n [] [] x a e = absurd cc
held_named content n [] (m ∷ names) x a e = absurd a
held_named content n (y ∷ held) [] x a e = absurd a
held_named content n (y ∷ held) (m ∷ names) x a e =
    by_test (nat_eq y.job n) refl (λ k. held_named content n held names x a.2 k)
  where
    by_test : (b : Bool) → nat_eq y.job n ≡ b
        → (held_for n held ≡ Some x → IsIntactHeld content (names_for n names) x)
        → IsIntactHeld content (names_for n (m ∷ names)) x
    by_test true t later =
        let u : nat_eq m.0 n ≡ true = ap (λ (z : ℕ). nat_eq z n) a.0 ∙ t in
        let here : Some y ≡ Some x = rw t at e in
        let same : y ≡ x = cc in
        rw u (subst (λ (z : SnapshotView). IsIntactHeld content m.1 z) same a.1)
    by_test false t later =
        let u : nat_eq m.0 n ≡ false = ap (λ (z : ℕ). nat_eq z n) a.0 ∙ t in rw u (later (rw t at e))
