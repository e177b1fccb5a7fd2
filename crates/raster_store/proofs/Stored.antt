-- A store with what is held of it for jobs, and the tiles that are kept decoded.
use Rattle.std.proofs.Common.{◌≡◌, ℕ, ◌+◌, ◌≤◌, List, [], ◌∷◌, ◌++◌, refl, inl, inr, None, arith}
use Rattle.std.proofs.lemmas.Bool.{cases_eq}
use Rattle.std.proofs.lemmas.List.{map_push}
use Rattle.std.proofs.lemmas.List.Elements.{All-push}
use Rattle.arr_core.specs.Stores.{found}
use Rattle.block_file.specs.State.{BlocksState}
use Rattle.block_file.specs.Words.{OnlyReads}
use Rattle.raster_store.specs.declared.held.Held.{Held}
use Rattle.raster_store.specs.declared.snapshot.Snapshot.{Snapshot}
use Rattle.raster_store.specs.Views.{listed_fields, listed_all}
use Rattle.raster_store.specs.Decoded.{Kept}
use Rattle.raster_store.specs.Calls.{MayAttach}
use Rattle.raster_store.specs.Holding.{coverages_of, indexes_of, IsWhole, IsHeld, listed_held, AreSnapshots, Renews, AddsOf, AreDecoded, IsStore}
use Rattle.raster_store.proofs.Contents.{apart_push, none_found}
use Rattle.raster_store.proofs.Totals.{listed_all-push}
use Rattle.raster_store.proofs.Writes.{held_kept}
use Rattle.raster_store.proofs.Versions.{decoded_push, decoded_read, Serves}
use Rattle.raster_store.proofs.Snapshots.{passed, passes_reads}

-- one more coverage
pub store_push : (s : BlocksState) (held : List Held) (xs : List Snapshot) (new : Held) (next following : ℕ) (kept : Kept) → IsHeld s held → IsWhole new → found new.signature.name (coverages_of s.content held) ≡ None → MayAttach s (indexes_of held) new.fields.items → Renews next new.version following → AreDecoded s next kept held xs
    → AreSnapshots (listed_all (indexes_of held)) s xs → ((k : ℕ) → (listed_all (indexes_of held) k + listed_fields new.fields.items k) + listed_held xs k ≤ s.uses k) → IsStore s (held ++ new ∷ []) xs following kept
store_push s held xs new next following kept is whole fresh may version decoded are covers =
    let total : (k : ℕ) → listed_all (indexes_of (held ++ new ∷ [])) k ≡ listed_all (indexes_of held) k + listed_fields new.fields.items k =
    λ k. rw (map_push (λ (h : Held). h.fields.items) held new) (listed_all-push k (indexes_of held) new.fields.items) in
    record {
      is_held = record {
        each = All-push IsWhole held new is.each whole;
        apart = apart_push held new is.apart (none_found s.content new.signature.name held fresh);
        counted = λ k. omega (arith, may.counted k, total k);
        whole = λ sure k some. elim (cases_eq (listed_fields new.fields.items k) 0) [
          | inl old ↦ is.whole sure k (omega (arith, some, old, total k))
          | inr more ↦ may.whole sure k (omega (arith, more))
        ];
      };
      snapshots = record { each = are.each; counted = λ k. omega (arith, covers k, total k) };
      decoded = decoded_push s next following kept held xs new version decoded;
    }

-- a store of which blocks were read
pub store_read : {asked : ℕ → ℕ} (s s' : BlocksState) (held : List Held) (xs : List Snapshot) (next : ℕ) (kept : Kept) → IsStore s held xs next kept → OnlyReads asked s s' → IsStore s' held xs next kept
store_read s s' held xs next kept is reads = record {
  is_held = held_kept s s' held is.is_held (λ k. rw reads.uses refl) reads.honest (λ sure k some. rw reads.content refl);
  snapshots = passed (listed_all (indexes_of held)) (listed_all (indexes_of held)) s s' xs (passes_reads (listed_all (indexes_of held)) s s' reads) is.snapshots;
  decoded = decoded_read s s' next kept held xs reads.content reads.honest is.decoded;
}

-- and of which a tile was fetched
pub store_fetched : {asked : ℕ → ℕ} (s s' : BlocksState) (held : List Held) (xs : List Snapshot) (next : ℕ) (old new : Kept) (h : Held) → IsStore s held xs next old → Serves s next old held xs h → AddsOf s h old new → OnlyReads asked s s' → IsStore s' held xs next new
store_fetched s s' held xs next old new h is serves adds reads =
    store_read s s' held xs next new (record { is_held = is.is_held; snapshots = is.snapshots; decoded = serves.more new adds }) reads
