-- How many bytes metadata has at most, by how many blocks its indexes list.
use Rattle.std.proofs.Common.{◌≡◌, ℕ, ◌+◌, ◌*◌, ◌≤◌, List, [], ◌∷◌, ◌++◌, length, flat_map, ap, ◌∙◌, arith, length-append, All}
use Rattle.std.proofs.lemmas.List.Concat.{flat_map-cons, length-flat_map}
use Rattle.std.proofs.lemmas.List.Elements.{All-head, All-tail}
use Rattle.arr_core.specs.declared.signature.Signature.{Signature}
use Rattle.tile_index.specs.declared.entry.Entry.{Entry}
use Rattle.tile_index.specs.Bytes.{number_bytes, length_number, entry_bytes, index_bytes}
use Rattle.tile_index.specs.Index.{IsPair, IsIndex}
use Rattle.tile_index.proofs.Codes.{length-numbers, index-parts}
use Rattle.catalogue.specs.Bytes.{catalogue_bytes, signature_bytes}
use Rattle.catalogue.specs.Signatures.{IsSignature}
use Rattle.catalogue.proofs.ByteCounts.{catalogue_length, codes_short, signature_short}
use Rattle.metadata.specs.Metadata.{part_bytes, indexes_bytes, metadata_bytes, AreCounted, IsMetadata}
use Rattle.metadata.proofs.Counted.{Index}
use Rattle.metadata.proofs.Sizes.{length_part}

-- the blocks that an index lists, those of some fields, and those of all coverages
abbrev pub index_blocks : Index → List ℕ
index_blocks index = flat_map (λ (x : ℕ × Entry). x.1.blocks) index

abbrev pub fields_blocks : List Index → List ℕ
fields_blocks fields = flat_map index_blocks fields

abbrev pub all_blocks : List (List Index) → List ℕ
all_blocks indexes = flat_map fields_blocks indexes

-- a list that is put together of two parts
joined : {X : Type 0} (f : X → List ℕ) (x : X) (xs : List X) → length (flat_map f (x ∷ xs)) ≡ length (f x) + length (flat_map f xs)
joined f x xs = ap length (flat_map-cons f x xs) ∙ length-append (f x) (flat_map f xs)

-- a tile has a block at least, so that its entry takes at most 12 bytes for each
entry_short : (x : ℕ × Entry) → IsPair x → length (entry_bytes x) ≤ 12 * length x.1.blocks
unfolding entry_bytes
entry_short x is =
    let number = number_bytes (length_number x.1.form x.1.length) in
    let some = is.1.some in
    let filled = is.1.filled in
    omega (arith, some, filled, length-append (number_bytes x.0) (number ++ flat_map number_bytes x.1.blocks), length-append number (flat_map number_bytes x.1.blocks), length-numbers x.1.blocks)

entries_short : (xs : Index) → All IsPair xs → length (flat_map entry_bytes xs) ≤ 12 * length (index_blocks xs)
entries_short [] each = omega arith
entries_short (x ∷ xs) each =
    omega (arith, joined entry_bytes x xs, joined (λ (y : ℕ × Entry). y.1.blocks) x xs, entry_short x (All-head IsPair x xs each), entries_short xs (All-tail IsPair x xs each))

index_short : (index : Index) → IsIndex index → length (index_bytes index) ≤ 4 + 12 * length (index_blocks index)
index_short index is =
    omega (arith, ap length (index-parts index), length-append (number_bytes (length index)) (flat_map entry_bytes index), entries_short index is.pairs.each)

-- an index takes 12 bytes besides: its own length, and the number of its tiles
fields_short : (fields : List Index) → All IsIndex fields → length (indexes_bytes fields) ≤ 12 * length fields + 12 * length (fields_blocks fields)
unfolding indexes_bytes
fields_short [] each = omega arith
fields_short (i ∷ fields) each =
    omega (
      arith,
      joined (λ (x : Index). part_bytes (index_bytes x)) i fields,
      joined index_blocks i fields,
      length_part (index_bytes i),
      index_short i (All-head IsIndex i fields each),
      fields_short fields (All-tail IsIndex i fields each),
    )

-- a coverage has at most 16 fields
coverages_short : (signatures : List Signature) (indexes : List (List Index)) → All IsSignature signatures → AreCounted signatures indexes
    → length (flat_map indexes_bytes indexes) ≤ 192 * length signatures + 12 * length (all_blocks indexes)
coverages_short [] [] each c = omega arith
coverages_short [] (i ∷ indexes) each c = absurd c
coverages_short (s ∷ signatures) [] each c = absurd c
coverages_short (s ∷ signatures) (i ∷ indexes) each c =
    let few = (All-head IsSignature s signatures each).fields.sound.few in
    let count = c.0 in
    omega (arith, few, count, joined indexes_bytes i indexes, joined fields_blocks i indexes, fields_short i c.1, coverages_short signatures indexes (All-tail IsSignature s signatures each) c.2)

-- the catalogue, the lengths of 16 indexes of 1,024 coverages, and the tiles
pub metadata_short : (bytes : List ℕ) (signatures : List Signature) (indexes : List (List Index)) → IsMetadata bytes signatures indexes
    → length bytes ≤ 2000000 + 12 * length (all_blocks indexes)
unfolding metadata_bytes
metadata_short bytes signatures indexes m =
    let few = m.catalogue.few in
    let catalogue = codes_short signature_bytes 1561 IsSignature signature_short signatures m.catalogue.each in
    omega (
      arith,
      few,
      catalogue,
      ap length m.written,
      length-append (part_bytes (catalogue_bytes signatures)) (flat_map indexes_bytes indexes),
      length_part (catalogue_bytes signatures),
      catalogue_length signatures,
      length-flat_map signature_bytes signatures,
      coverages_short signatures indexes m.catalogue.each m.counted,
    )
