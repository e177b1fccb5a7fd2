-- The metadata of a closed file is short, since it lists each block of a tile once.
use Rattle.std.proofs.Common.{◌≡◌, ℕ, ◌<◌, ◌≤◌, List, [], ◌∷◌, length, arith, sym, ◌∙◌, ap, inl, inr}
use Rattle.std.proofs.lemmas.Bool.{cases_lt}
use Rattle.std.proofs.lemmas.List.Concat.{flat_map-cons}
use Rattle.arr_core.specs.declared.signature.Signature.{Signature}
use Rattle.block_file.specs.State.{times}
use Rattle.block_file.proofs.Free.{free_le, free_listed}
use Rattle.block_file.proofs.Times.{times_none, times_append}
use Rattle.metadata.proofs.Bounds.{index_blocks, fields_blocks, all_blocks, metadata_short}
use Rattle.raster_store.specs.Views.{Index, listed_fields, listed_all}
use Rattle.raster_store.proofs.Totals.{listed_fields-cons, listed_all-nil, listed_all-cons}
use Rattle.raster_store.proofs.Snapshots.{times_listed}
use Rattle.coverage_server.specs.Disk.{IsLaidOut}

-- the blocks of fields, and of all coverages, are those that they list
times_fields : (fields : List Index) (k : ℕ) → times (fields_blocks fields) k ≡ listed_fields fields k
unfolding listed_fields
times_fields [] k = times_none k
times_fields (i ∷ fields) k =
    let parts = ap (λ (l : List ℕ). times l k) (flat_map-cons index_blocks i fields) in
    omega (arith, parts, times_append (index_blocks i) (fields_blocks fields) k, times_listed i k, times_fields fields k, listed_fields-cons k i fields)

times_all : (indexes : List (List Index)) (k : ℕ) → times (all_blocks indexes) k ≡ listed_all indexes k
times_all [] k = times_none k ∙ sym (listed_all-nil k)
times_all (i ∷ indexes) k =
    let parts = ap (λ (l : List ℕ). times l k) (flat_map-cons fields_blocks i indexes) in
    omega (arith, parts, times_append (fields_blocks i) (all_blocks indexes) k, times_fields i k, times_all indexes k, listed_all-cons k i indexes)

-- different blocks up to a number are no more than the number
few_blocks : (n : ℕ) (blocks : List ℕ) → ((k : ℕ) → times blocks k ≤ 1) → ((k : ℕ) → 0 < times blocks k → (0 < k) × (k ≤ n)) → length blocks ≤ n
few_blocks n blocks once within =
    let all = free_listed n blocks (λ k. 0) (times blocks) (λ k. omega arith) once (λ k some. let here = within k some in (here.0, here.1, omega arith)) in
    omega (arith, all, free_le n (λ k. 0))

-- what a closed file lists takes at most 12 bytes for each of its blocks, and no more than 2,000,000 besides
pub laid_short : (content metadata : List ℕ) (signatures : List Signature) (indexes : List (List Index)) → IsLaidOut content metadata signatures indexes → length metadata ≤ 15000000
laid_short content metadata signatures indexes laid =
    let few = laid.closed.few in
    let blocks = few_blocks 1048575 (all_blocks indexes)
    (λ k. elim (cases_lt 0 (listed_all indexes k)) [
      | inl some ↦ (let once = (laid.blocks k some).once in omega (arith, once, times_all indexes k))
      | inr none ↦ omega (arith, none, times_all indexes k)
    ])
    (λ k some.
    let tile = laid.blocks k (omega (arith, some, times_all indexes k)) in
    let within = tile.within in
    (tile.above_zero, omega (arith, within, few))) in
    omega (arith, blocks, metadata_short metadata signatures indexes laid.written)
