-- What is left where a coverage is taken out.
use Rattle.std.proofs.Common.{◌≡◌, ℕ, zero, suc, ◌≤◌, Bool, true, false, List, [], ◌∷◌, length, Result, Ok, Err, OnOk, OnErr, refl, sym, ap, ◌∙◌, arith, Contains}
use Rattle.std.specs.Prelude.{sum_by, flat_map}
use Rattle.std.specs.Str.{bytes_eq}
use Rattle.std.proofs.lemmas.List.{length-append}
use Rattle.std.proofs.lemmas.List.Sums.{sum_by-cons}
use Rattle.arr_core.specs.declared.signature.Signature.{Signature}
use Rattle.arr_core.specs.Stores.{Store, deleted}
use Rattle.catalogue.specs.Bytes.{signature_bytes, catalogue_bytes}
use Rattle.catalogue.specs.declared.error.NoSuchCoverage.{NoSuchCoverage}
use Rattle.catalogue.specs.Signatures.{names_of, without}
use Rattle.catalogue.proofs.ByteCounts.{catalogue_length}
use Rattle.block_file.specs.State.{free_up_to}
use Rattle.block_file.proofs.Free.{free_none, free-suc}
use Rattle.raster_store.specs.Views.{Index, SnapshotView, listed_fields, listed_all, fields_size, metadata_size, reserve}
use Rattle.raster_store.specs.Calls.{signature_of, indexes_without}
use Rattle.coverage_server.specs.Views.{signatures_of, uses_in, free_in}
use Rattle.coverage_server.proofs.StoreLemmas.{keeps_all}

-- the signatures without one are those of the coverages without that one
pub signatures_deleted : (name : List ℕ) (store : Store) → without name (signatures_of store) ≡ signatures_of (deleted name store)
signatures_deleted name [] = refl
signatures_deleted name (c ∷ store) = by_test (bytes_eq c.name name) refl (signatures_deleted name store)
  where
    by_test : (b : Bool) → bytes_eq c.name name ≡ b → without name (signatures_of store) ≡ signatures_of (deleted name store)
        → without name (signatures_of (c ∷ store)) ≡ signatures_of (deleted name (c ∷ store))
    by_test true t later = rw t later
    by_test false t later = rw t (ap (λ (l : List Signature). signature_of c ∷ l) later)

-- a name that was looked for is taken out, or was not there
pub left_out : {X : Type 0} (r : Result X NoSuchCoverage) (name : List ℕ) (held new : List Signature) → OnOk r (new ≡ without name held)
    → OnErr r (¬ Contains (names_of held) name) → OnErr r (new ≡ held) → new ≡ without name held
left_out (Ok x) name held new out none same = out
left_out (Err e) name held new out none same = same ∙ sym (keeps_all name held none)

-- a sum over the indexes that are left is no larger
fewer : (F : List Index → ℕ) (name : List ℕ) (store : Store) (indexes : List (List Index))
    → sum_by F (indexes_without name store indexes) ≤ sum_by F indexes
fewer F name [] indexes = omega arith
fewer F name (c ∷ store) [] = omega arith
fewer F name (c ∷ store) (i ∷ indexes) = by_test (bytes_eq c.name name) refl (fewer F name store indexes)
  where
    by_test : (b : Bool) → bytes_eq c.name name ≡ b → sum_by F (indexes_without name store indexes) ≤ sum_by F indexes
        → sum_by F (indexes_without name (c ∷ store) (i ∷ indexes)) ≤ sum_by F (i ∷ indexes)
    by_test true t later = rw t (omega (arith, later, sum_by-cons F i indexes))
    by_test false t later = rw t (omega (arith, later, sum_by-cons F i indexes, sum_by-cons F i (indexes_without name store indexes)))

-- and so are the bytes of the signatures that are left
shorter : (name : List ℕ) (held : List Signature) → length (flat_map signature_bytes (without name held)) ≤ length (flat_map signature_bytes held)
shorter name [] = omega arith
shorter name (s ∷ held) = by_test (bytes_eq s.name name) refl (shorter name held)
  where
    by_test : (b : Bool) → bytes_eq s.name name ≡ b → length (flat_map signature_bytes (without name held)) ≤ length (flat_map signature_bytes held)
        → length (flat_map signature_bytes (without name (s ∷ held))) ≤ length (flat_map signature_bytes (s ∷ held))
    by_test true t later = rw t (omega (arith, later, length-append (signature_bytes s) (flat_map signature_bytes held)))
    by_test false t later =
        rw t
        (omega (arith, later, length-append (signature_bytes s) (flat_map signature_bytes held), length-append (signature_bytes s) (flat_map signature_bytes (without name held))))

-- the indexes that are left list a block no more often
pub listed_left : (name : List ℕ) (store : Store) (indexes : List (List Index)) (k : ℕ) → listed_all (indexes_without name store indexes) k ≤ listed_all indexes k
unfolding listed_all
listed_left name store indexes k = fewer (λ (fields : List Index). listed_fields fields k) name store indexes

-- where no block has more uses, no fewer are free
pub no_fewer_free : (n : ℕ) (old new : ℕ → ℕ) → ((k : ℕ) → new k ≤ old k) → free_up_to n old ≤ free_up_to n new
no_fewer_free zero old new less = omega (arith, free_none old, free_none new)
no_fewer_free (suc n) old new less = omega (arith, free-suc n old, free-suc n new, no_fewer_free n old new less, less (suc n))

less_metadata : (name : List ℕ) (store : Store) (held : List Signature) (indexes : List (List Index))
    → reserve (length (catalogue_bytes (without name held))) (indexes_without name store indexes) ≤ reserve (length (catalogue_bytes held)) indexes
unfolding metadata_size
less_metadata name store held indexes =
    let sizes = fewer fields_size name store indexes in
    let bytes = shorter name held in
    omega (arith, sizes, bytes, catalogue_length held, catalogue_length (without name held))

-- the metadata that is left takes no more blocks, and no fewer are free
pub room_left : (name : List ℕ) (store : Store) (held : List Signature) (indexes : List (List Index)) (snapshots : List SnapshotView)
    → reserve (length (catalogue_bytes held)) indexes ≤ free_in indexes snapshots
    → reserve (length (catalogue_bytes (without name held))) (indexes_without name store indexes) ≤ free_in (indexes_without name store indexes) snapshots
room_left name store held indexes snapshots room =
    let free = no_fewer_free 1048575 (uses_in indexes snapshots) (uses_in (indexes_without name store indexes) snapshots)
    (λ k. (let fewer = listed_left name store indexes k in omega (arith, fewer))) in
    omega (arith, room, less_metadata name store held indexes, free)
