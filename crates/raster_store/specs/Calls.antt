-- What the calls of a store ask, and what names, places and indexes are.
use Rattle.std.specs.Prelude.{◌≡◌, ℕ, ◌+◌, ◌<◌, ℤ, IsTrue, if◌then◌else◌, Option, None, IsSomeAnd, option_map}
use Rattle.std.specs.Prelude.{List, [], ◌∷◌, ◌++◌, map, length, All, replicate, slice_get}
use Rattle.std.specs.Str.{bytes_eq}
use Rattle.arr_core.specs.declared.cell.Cell.{Cell}
use Rattle.arr_core.specs.declared.domain.Axis.{Axis}
use Rattle.arr_core.specs.declared.field.Field.{Field}
use Rattle.arr_core.specs.declared.signature.Signature.{Signature}
use Rattle.arr_core.specs.Cells.{Holds}
use Rattle.arr_core.specs.Domains.{count, IsBoxOf}
use Rattle.arr_core.specs.Stores.{Coverage, Store, found}
use Rattle.file_bytes.specs.Limits.{block_bytes}
use Rattle.block_file.specs.State.{BlocksState, block, free_of}
use Rattle.block_file.specs.Words.{Covers}
use Rattle.tile_index.specs.Bytes.{index_bytes}
use Rattle.tile_index.specs.Index.{IsIndex}
use Rattle.tile_store.specs.Room.{AreMeeting, cells_after, tile_blocks, new_blocks, room_for}
use Rattle.raster_store.specs.declared.fault.WriteFault.{WriteFault}
use Rattle.raster_store.specs.declared.fault.WriteFault.TheVariants.{OutsideDomain, ValueCount, ValueRange, Device}
use Rattle.raster_store.specs.Views.{Index, coverages_in, listed_fields, listed_all, metadata_size, AreBelow}

-- what is told of a coverage without its values
abbrev pub signature_of : Coverage → Signature
signature_of c = record { name = c.name; domain = c.domain; fields = c.fields }

-- the signature of the coverage with a name
abbrev pub signature_in : List ℕ → Store → Option Signature
signature_in name coverages = option_map signature_of (found name coverages)

-- the coverages have the names, domains and fields that they had
abbrev pub AreSameSignatures : Store → Store → Type 0
AreSameSignatures old new = map signature_of new ≡ map signature_of old

-- each coverage has an index for each field, and these list tiles of its domain
abbrev pub AreWhole : Store → List (List Index) → Type 0
AreWhole [] [] = Unit {0}
AreWhole (c ∷ coverages) (i ∷ indexes) =
    (length i ≡ length c.fields) × All IsIndex i × AreBelow c.domain i × AreWhole coverages indexes
AreWhole [] (i ∷ indexes) = ⊥
AreWhole (c ∷ coverages) [] = ⊥

-- The coverages are what indexes list in these blocks: each listed block is in use at least as often as it is listed,
-- and whole on an honest disk.
pub record AreListed (s : BlocksState) (coverages : Store) (indexes : List (List Index)) : Type 0 where
  pub values : coverages ≡ coverages_in s.content (map signature_of coverages) indexes
  pub each : AreWhole coverages indexes
  pub counted : Covers s (listed_all indexes)
  pub whole : IsTrue s.honest → (k : ℕ) → 0 < listed_all indexes k → length (block s k) ≡ block_bytes

-- the blocks that new indexes list are in use as often as these and the old ones list them, and whole on an honest disk
pub record MayAttach (s : BlocksState) (old : List (List Index)) (new : List Index) : Type 0 where
  pub counted : Covers s (λ k. listed_all old k + listed_fields new k)
  pub whole : IsTrue s.honest → (k : ℕ) → 0 < listed_fields new k → length (block s k) ≡ block_bytes

-- there is a coverage with the name, and it has a field at the place
abbrev pub HasField : List ℕ → ℕ → Store → Type 0
HasField name field coverages = IsSomeAnd (found name coverages) (λ c. field < length c.fields)

-- the indexes with those of a coverage that is 0 everywhere
abbrev pub indexes_with : Signature → List (List Index) → List (List Index)
indexes_with s indexes = indexes ++ replicate (length s.fields) [] ∷ []

-- the field at a place has these cells for a box: as many as the box has points, each of the field's type
abbrev pub AreCells : List Axis → List Cell → Option Field → Type 0
AreCells area cells f = (length cells ≡ count area) × IsSomeAnd f (λ (f : Field). All (Holds f.kind) cells)

-- one cell for each point of a box
abbrev pub filled : List Axis → Cell → List Cell
filled area cell = replicate (count area) cell

-- a box of a domain, and cells for the field at a place
abbrev pub MayHaveCells : Signature → ℕ → List Axis → List Cell → Type 0
MayHaveCells s field area cells = IsBoxOf s.domain area × AreCells area cells (slice_get s.fields field)

-- a box of the coverage, and cells for the field
abbrev pub HasNumbers : List ℕ → ℕ → List Axis → List Cell → Store → Type 0
HasNumbers name field area cells coverages =
    IsSomeAnd (found name coverages) (λ c. MayHaveCells (signature_of c) field area cells)

-- which refusal comes: first for the box, then for the number of cells, then for their types, and then for the device
abbrev pub RefusesCells : Signature → ℕ → List Axis → List Cell → WriteFault → Type 0
RefusesCells s field area cells OutsideDomain = ¬ (IsBoxOf s.domain area)
RefusesCells s field area cells ValueCount = IsBoxOf s.domain area × (¬ (length cells ≡ count area))
RefusesCells s field area cells ValueRange =
    IsBoxOf s.domain area × (length cells ≡ count area)
    × IsSomeAnd (slice_get s.fields field) (λ (f : Field). ¬ (All (Holds f.kind) cells))
RefusesCells s field area cells (Device fault) = MayHaveCells s field area cells

-- the index of a field of the coverage with a name
abbrev pub index_of : List ℕ → ℕ → Store → List (List Index) → Option Index
index_of name field [] indexes = None
index_of name field (c ∷ coverages) [] = None
index_of name field (c ∷ coverages) (i ∷ indexes) =
    if bytes_eq c.name name then slice_get i field else index_of name field coverages indexes

-- these are the bytes of the index of a field of the coverage with a name
abbrev pub IsIndexOf : List ℕ → ℕ → Store → List (List Index) → List ℕ → Type 0
IsIndexOf name field coverages indexes bytes =
    IsSomeAnd (index_of name field coverages indexes) (λ i. bytes ≡ index_bytes i)

-- the indexes without those of the coverage with a name
abbrev pub indexes_without : List ℕ → Store → List (List Index) → List (List Index)
indexes_without name [] indexes = []
indexes_without name (c ∷ coverages) [] = []
indexes_without name (c ∷ coverages) (i ∷ indexes) =
    if bytes_eq c.name name then indexes_without name coverages indexes else i ∷ indexes_without name coverages indexes

-- how many blocks a tile of a field takes after numbers are put into a box
abbrev pub blocks_with : Coverage → Field → Index → List ℕ → List Axis → List ℤ → ℕ → ℕ
blocks_with c f index content area numbers tile =
    tile_blocks f.kind (cells_after f.kind c.domain index content area numbers tile)

-- so many blocks the new tiles of a box take; `blocks` says how many a new tile of a field takes
abbrev pub NeedBlocks : (Coverage → Field → Index → ℕ → ℕ) → List ℕ → ℕ → List Axis → Store → List (List Index) → ℕ
    → Type 0
NeedBlocks blocks name field area coverages indexes n =
    IsSomeAnd (found name coverages) (λ c. IsSomeAnd (slice_get c.fields field) (λ (f : Field).
    IsSomeAnd (index_of name field coverages indexes) (λ i.
    (tiles : List ℕ) × AreMeeting c.domain area tiles × (n ≡ new_blocks (blocks c f i) tiles))))

-- Fewer blocks are free than the new tiles of a box and the metadata after it need, which are the field's index and
-- other metadata of `rest` bytes; `blocks` says how many a new tile of a field takes.
abbrev pub LacksBlocks : (Coverage → Field → Index → ℕ → ℕ) → List ℕ → ℕ → List Axis → ℕ → ℕ → Store → List (List Index)
    → Type 0
LacksBlocks blocks name field area catalogue free coverages indexes =
    IsSomeAnd (found name coverages) (λ c. IsSomeAnd (slice_get c.fields field) (λ (f : Field).
    IsSomeAnd (index_of name field coverages indexes) (λ i.
    (rest : ℕ) × (rest + length (index_bytes i) ≡ metadata_size catalogue indexes)
    × ((tiles : List ℕ) × AreMeeting c.domain area tiles × (free < room_for (blocks c f i) i tiles rest)))))

-- so it is where these numbers are put into the box
abbrev pub LacksRoomFor : List ℕ → ℕ → List Axis → List ℤ → ℕ → BlocksState → Store → List (List Index) → Type 0
LacksRoomFor name field area numbers catalogue s coverages indexes =
    LacksBlocks (λ c f i. blocks_with c f i s.content area numbers) name field area catalogue (free_of s) coverages
    indexes
