-- The parts of the metadata as they are read: each stands behind its length.
use Rattle.std.specs.Prelude.{◌≡◌, ℕ, List, [], ◌∷◌, length, flat_map, All}
use Rattle.file_bytes.specs.Codes.{IsRead, NoneIsRead}
use Rattle.arr_core.specs.declared.signature.Signature.{Signature}
use Rattle.tile_index.specs.declared.entry.Entry.{Entry}
use Rattle.tile_index.specs.Bytes.{index_bytes}
use Rattle.tile_index.specs.Entries.{AreOf}
use Rattle.tile_index.specs.Index.{IsIndex}
use Rattle.file_bytes.specs.declared.form.Version.{Version}
use Rattle.catalogue.specs.Bytes.{catalogue_bytes}
use Rattle.catalogue.specs.Signatures.{IsCatalogue, HaveAxesOf}
use Rattle.catalogue.specs.Reading.{AreMany}
use Rattle.metadata.specs.Metadata.{part_bytes, indexes_bytes}

-- any bytes may stand in a part
abbrev pub IsAny : List ℕ → Type 0
IsAny bytes = Unit {0}

-- a part was read from the front of some bytes, or they begin with none
abbrev pub IsPartRead : List ℕ → List ℕ → List ℕ → Type 0
IsPartRead bytes part left = IsRead IsAny part_bytes bytes part left

abbrev pub NoPartIsRead : List ℕ → Type 0
NoPartIsRead bytes = NoneIsRead IsAny part_bytes bytes

-- the part of a catalogue
abbrev pub catalogue_part_bytes : List Signature → List ℕ
catalogue_part_bytes signatures = part_bytes (catalogue_bytes signatures)

-- the part of an index
abbrev pub index_part_bytes : List (ℕ × Entry) → List ℕ
index_part_bytes index = part_bytes (index_bytes index)

-- a catalogue and an index that a file of a version has
abbrev pub IsCatalogueIn : Version → List Signature → Type 0
IsCatalogueIn version signatures = IsCatalogue signatures × HaveAxesOf version signatures

abbrev pub IsIndexIn : Version → List (ℕ × Entry) → Type 0
IsIndexIn version index = IsIndex index × AreOf version index

-- each coverage has such an index for each of its fields
abbrev pub AreCountedIn : Version → List Signature → List (List (List (ℕ × Entry))) → Type 0
AreCountedIn version [] [] = Unit {0}
AreCountedIn version (s ∷ signatures) (i ∷ indexes) =
    (length i ≡ length s.fields) × All (IsIndexIn version) i × AreCountedIn version signatures indexes
AreCountedIn version [] (i ∷ indexes) = ⊥
AreCountedIn version (s ∷ signatures) [] = ⊥

-- the indexes of so many fields were read, or the bytes begin with no such indexes
abbrev pub AreFieldsRead : Version → ℕ → List ℕ → List (List (ℕ × Entry)) → List ℕ → Type 0
AreFieldsRead version count bytes indexes left =
    IsRead (AreMany (IsIndexIn version) count) indexes_bytes bytes indexes left

abbrev pub NoFieldsAreRead : Version → ℕ → List ℕ → Type 0
NoFieldsAreRead version count bytes = NoneIsRead (AreMany (IsIndexIn version) count) indexes_bytes bytes

-- the indexes of the fields of these coverages were read, or the bytes begin with no such indexes
abbrev pub AreIndexesRead : Version → List Signature → List ℕ → List (List (List (ℕ × Entry))) → List ℕ → Type 0
AreIndexesRead version signatures bytes indexes left =
    IsRead (AreCountedIn version signatures) (flat_map indexes_bytes) bytes indexes left

abbrev pub NoIndexesAreRead : Version → List Signature → List ℕ → Type 0
NoIndexesAreRead version signatures bytes = NoneIsRead (AreCountedIn version signatures) (flat_map indexes_bytes) bytes
