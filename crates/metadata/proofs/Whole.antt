-- The whole metadata, read from its bytes.
use Rattle.std.proofs.Common.{ℕ, List, flat_map}
use Rattle.file_bytes.specs.Codes.{IsRead}
use Rattle.arr_core.specs.declared.signature.Signature.{Signature}
use Rattle.file_bytes.specs.declared.form.Version.{Version}
use Rattle.catalogue.proofs.Sequences.{Joins, pairs, read-both}
use Rattle.metadata.specs.Metadata.{indexes_bytes, metadata_bytes, IsMetadata, IsOfVersion}
use Rattle.metadata.specs.Parts.{catalogue_part_bytes, IsCatalogueIn, AreCountedIn}
use Rattle.metadata.proofs.Counted.{Index, counted-in}

-- a catalogue and its indexes, such as a file of a version has
abbrev pub IsWhole : Version → List Signature × List (List Index) → Type 0
IsWhole v p = IsCatalogueIn v p.0 × AreCountedIn v p.0 p.1

abbrev pub whole_bytes : List Signature × List (List Index) → List ℕ
whole_bytes p = metadata_bytes p.0 p.1

pub metadata-parts : (v : Version) → Joins (IsWhole v) whole_bytes (IsCatalogueIn v) catalogue_part_bytes (AreCountedIn v) (flat_map indexes_bytes) (λ s i. (s, i))
unfolding metadata_bytes
metadata-parts v = pairs (IsCatalogueIn v) catalogue_part_bytes (AreCountedIn v) (flat_map indexes_bytes)

-- metadata of a version has both
pub of-version : {v : Version} {bytes : List ℕ} {signatures : List Signature} {indexes : List (List Index)} → IsMetadata bytes signatures indexes → IsOfVersion v signatures indexes → IsWhole v (signatures, indexes)
of-version {v} {bytes} {signatures} {indexes} m o = ((m.catalogue, o.axes), counted-in v signatures indexes m.counted o.forms)

pub read-whole : (v : Version) {bytes mid end : List ℕ} {held : List Signature} {indexes : List (List Index)}
    → IsRead (IsCatalogueIn v) catalogue_part_bytes bytes held mid → IsRead (AreCountedIn v held) (flat_map indexes_bytes) mid indexes end
    → IsRead (IsWhole v) whole_bytes bytes (held, indexes) end
read-whole v r s = read-both (metadata-parts v) r s
