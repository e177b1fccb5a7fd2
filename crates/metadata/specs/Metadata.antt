-- The metadata of a store file. Numbers have the lowest byte first.
use Rattle.std.specs.Prelude.{◌≡◌, ℕ, List, [], ◌∷◌, ◌++◌, length, map, All, Vec}
use Rattle.std.specs.List.{flat_map}
use Rattle.std.specs.declared.alloc.Global.{Global}
use Rattle.byteorder.specs.Endian.{little_bytes}
use Rattle.arr_core.specs.declared.signature.Signature.{Signature}
use Rattle.tile_index.specs.declared.entry.Entry.{Entry}
use Rattle.tile_index.specs.declared.index.TileIndex.{TileIndex}
use Rattle.tile_index.specs.Bytes.{index_bytes}
use Rattle.tile_index.specs.Entries.{AreOf}
use Rattle.tile_index.specs.Index.{IsIndex}
use Rattle.file_bytes.specs.declared.form.Version.{Version}
use Rattle.catalogue.specs.Bytes.{catalogue_bytes}
use Rattle.catalogue.specs.Signatures.{IsCatalogue, HaveAxesOf}

-- a part of the metadata: its length in 64 bits, and its bytes
abbrev pub part_bytes : List ℕ → List ℕ
part_bytes bytes = little_bytes 8 (length bytes) ++ bytes

-- the indexes of a coverage's fields, in order
unfoldable pub indexes_bytes : List (List (ℕ × Entry)) → List ℕ
indexes_bytes indexes = flat_map (λ (i : List (ℕ × Entry)). part_bytes (index_bytes i)) indexes

-- the metadata: the catalogue, and then for each coverage in order the indexes of its fields
unfoldable pub metadata_bytes : List Signature → List (List (List (ℕ × Entry))) → List ℕ
metadata_bytes signatures indexes = part_bytes (catalogue_bytes signatures) ++ flat_map indexes_bytes indexes

-- for each coverage the indexes of its fields, as they are held
abbrev pub indexes_of : List (Vec TileIndex Global) → List (List (List (ℕ × Entry)))
indexes_of indexes = map (λ (v : Vec TileIndex Global). v.items) indexes

-- each coverage has an index for each of its fields
abbrev pub AreCounted : List Signature → List (List (List (ℕ × Entry))) → Type 0
AreCounted [] [] = Unit {0}
AreCounted (s ∷ signatures) (i ∷ indexes) = (length i ≡ length s.fields) × All IsIndex i × AreCounted signatures indexes
AreCounted [] (i ∷ indexes) = ⊥
AreCounted (s ∷ signatures) [] = ⊥

-- these bytes are the metadata of a catalogue and its indexes
pub record IsMetadata (bytes : List ℕ) (signatures : List Signature) (indexes : List (List (List (ℕ × Entry))))
    : Type 0 where
  pub catalogue : IsCatalogue signatures
  pub counted : AreCounted signatures indexes
  pub written : bytes ≡ metadata_bytes signatures indexes

-- a catalogue and its indexes are such as a file of a version has
pub record IsOfVersion (version : Version) (signatures : List Signature) (indexes : List (List (List (ℕ × Entry))))
    : Type 0 where
  pub axes : HaveAxesOf version signatures
  pub forms : All (λ (fields : List (List (ℕ × Entry))). All (AreOf version) fields) indexes

-- the bytes are the metadata of nothing that a file of this version has
abbrev pub AreOfNoMetadata : Version → List ℕ → Type 0
AreOfNoMetadata version bytes =
    (signatures : List Signature) (indexes : List (List (List (ℕ × Entry))))
    → IsMetadata bytes signatures indexes → IsOfVersion version signatures indexes → ⊥

-- the bytes are the metadata of nothing else that a file of this version has
abbrev pub AreOfNoOther : Version → List ℕ → List Signature → List (List (List (ℕ × Entry))) → Type 0
AreOfNoOther version bytes catalogue held =
    (signatures : List Signature) (indexes : List (List (List (ℕ × Entry))))
    → IsMetadata bytes signatures indexes → IsOfVersion version signatures indexes
    → (signatures ≡ catalogue) × (indexes ≡ held)
