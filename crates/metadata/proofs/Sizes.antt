-- How many bytes the metadata has.
use Rattle.std.proofs.Common.{◌≡◌, ℕ, ◌+◌, List, length, flat_map, ap, ◌∙◌, arith, length-append}
use mathlib.Core.Path.{fun_ext}
use Rattle.std.specs.List.{sum_by}
use Rattle.std.proofs.lemmas.List.Concat.{length-flat_map}
use Rattle.byteorder.specs.Endian.{little_bytes}
use Rattle.arr_core.specs.declared.signature.Signature.{Signature}
use Rattle.tile_index.specs.declared.entry.Entry.{Entry}
use Rattle.tile_index.specs.Bytes.{index_bytes}
use Rattle.catalogue.specs.Bytes.{catalogue_bytes}
use Rattle.metadata.specs.Metadata.{part_bytes, indexes_bytes, metadata_bytes}

-- a part has 8 bytes more than what stands in it
pub length_part : (bytes : List ℕ) → length (part_bytes bytes) ≡ 8 + length bytes
length_part bytes = omega (arith, length-append (little_bytes 8 (length bytes)) bytes)

-- the indexes of the fields of a coverage
pub length_indexes : (indexes : List (List (ℕ × Entry))) → length (indexes_bytes indexes) ≡ sum_by (λ (i : List (ℕ × Entry)). 8 + length (index_bytes i)) indexes
unfolding indexes_bytes
length_indexes indexes =
    length-flat_map (λ (i : List (ℕ × Entry)). part_bytes (index_bytes i)) indexes
    ∙ ap (λ (f : List (ℕ × Entry) → ℕ). sum_by f indexes) (fun_ext (λ i. length_part (index_bytes i)))

-- the indexes of all coverages
pub length_all_indexes : (indexes : List (List (List (ℕ × Entry)))) → length (flat_map indexes_bytes indexes) ≡ sum_by (λ (fields : List (List (ℕ × Entry))). sum_by (λ (i : List (ℕ × Entry)). 8 + length (index_bytes i)) fields) indexes
length_all_indexes indexes =
    length-flat_map indexes_bytes indexes ∙ ap (λ (f : List (List (ℕ × Entry)) → ℕ). sum_by f indexes) (fun_ext length_indexes)

-- the metadata: the catalogue and each index, each behind its length in 8 bytes
pub length_metadata : (signatures : List Signature) (indexes : List (List (List (ℕ × Entry)))) → length (metadata_bytes signatures indexes) ≡ (8 + length (catalogue_bytes signatures)) + sum_by (λ (fields : List (List (ℕ × Entry))). sum_by (λ (i : List (ℕ × Entry)). 8 + length (index_bytes i)) fields) indexes
unfolding metadata_bytes
length_metadata signatures indexes =
    omega (arith, length_part (catalogue_bytes signatures), length_all_indexes indexes, length-append (part_bytes (catalogue_bytes signatures)) (flat_map indexes_bytes indexes))
