-- A store of coverages over blocks, as callers see it.
use Rattle.std.specs.Prelude.{◌≡◌, ℕ, ◌+◌, ◌-◌, ◌^◌, ℤ, min, List, [], ◌∷◌, length, sum_by}
use Rattle.std.specs.List.{AllByRecursion as Each}
use Rattle.arr_core.specs.declared.domain.Axis.{Axis}
use Rattle.arr_core.specs.declared.field.Field.{Field}
use Rattle.arr_core.specs.declared.signature.Signature.{Signature}
use Rattle.arr_core.specs.Stores.{Coverage, Store}
use Rattle.arr_core.specs.Tiles.{tile_boxes}
use Rattle.tile_index.specs.Bytes.{index_bytes}
use Rattle.block_file.specs.Format.{chain_blocks}
use Rattle.tile_store.specs.Listing.{listed, IsBelow}
pub use Rattle.tile_store.specs.Listing.{Index}
use Rattle.tile_store.specs.Stored.{field_values, IsSpelled}

-- the values of fields, each by its index
abbrev pub values_in : List ℕ → List Axis → List Field → List Index → List (List ℤ)
values_in content domain [] indexes = []
values_in content domain (f ∷ fields) [] = []
values_in content domain (f ∷ fields) (i ∷ indexes) =
    field_values f.kind domain i content ∷ values_in content domain fields indexes

-- the coverage with a signature whose fields have these indexes
abbrev pub coverage_in : List ℕ → Signature → List Index → Coverage
coverage_in content s indexes = record {
  name = s.name;
  domain = s.domain;
  fields = s.fields;
  values = values_in content s.domain s.fields indexes;
}

-- the coverages with these signatures and indexes
abbrev pub coverages_in : List ℕ → List Signature → List (List Index) → Store
coverages_in content [] indexes = []
coverages_in content (s ∷ signatures) [] = []
coverages_in content (s ∷ signatures) (i ∷ indexes) =
    coverage_in content s i ∷ coverages_in content signatures indexes

-- every listed tile of fields spells its cells
abbrev pub FieldsIntact : List ℕ → List Axis → List Field → List Index → Type 0
FieldsIntact content domain [] indexes = Unit {0}
FieldsIntact content domain (f ∷ fields) [] = Unit {0}
FieldsIntact content domain (f ∷ fields) (i ∷ indexes) =
    IsSpelled f.kind domain i content × FieldsIntact content domain fields indexes

-- every listed tile of a store spells its cells
abbrev pub AreIntact : List ℕ → Store → List (List Index) → Type 0
AreIntact content [] indexes = Unit {0}
AreIntact content (c ∷ coverages) [] = Unit {0}
AreIntact content (c ∷ coverages) (i ∷ indexes) =
    FieldsIntact content c.domain c.fields i × AreIntact content coverages indexes

-- how often the indexes of fields list a block
unfoldable pub listed_fields : List Index → ℕ → ℕ
listed_fields indexes k = sum_by (λ (i : Index). listed i k) indexes

-- how often all indexes of a store list a block
unfoldable pub listed_all : List (List Index) → ℕ → ℕ
listed_all indexes k = sum_by (λ (fields : List Index). listed_fields fields k) indexes

-- The coverages that are held for a job, as they were when it began to hold them, and the indexes of their fields.
pub record SnapshotView : Type 0 where
  pub job : ℕ
  pub coverages : Store
  pub indexes : List (List Index)

-- how often all that is held for jobs lists a block
unfoldable pub listed_snapshots : List SnapshotView → ℕ → ℕ
listed_snapshots snapshots k = sum_by (λ (x : SnapshotView). listed_all x.indexes k) snapshots

-- how many bytes the indexes of fields take in the metadata, each behind its length
unfoldable pub fields_size : List Index → ℕ
fields_size indexes = sum_by (λ (i : Index). 8 + length (index_bytes i)) indexes

-- how many bytes the metadata has: the length of the catalogue, the catalogue, and the indexes
unfoldable pub metadata_size : ℕ → List (List Index) → ℕ
metadata_size catalogue indexes = (8 + catalogue) + sum_by fields_size indexes

-- how many blocks have to stay free for the metadata
abbrev pub reserve : ℕ → List (List Index) → ℕ
reserve catalogue indexes = chain_blocks (metadata_size catalogue indexes)

-- each index lists only tiles of the domain
abbrev pub AreBelow : List Axis → List Index → Type 0
AreBelow domain indexes = Each (IsBelow (length (tile_boxes domain))) indexes

-- The coverages, the index of each of their fields, what is held for jobs, how many tiles were fetched, and the blocks
-- below.
pub record RasterView (B : Type 0) : Type 0 where
  pub coverages : Store
  pub indexes : List (List Index)
  pub snapshots : List SnapshotView
  pub fetched : ℕ
  pub blocks : B

-- so many tiles were fetched; the count stays at the last value of a `u64`
abbrev pub Fetched : ℕ → ℕ → ℕ → Type 0
Fetched tiles old new = new ≡ min (2 ^ 64 - 1) (old + tiles)
