-- How a store is held: for each coverage its signature, and the index of each field.
use Rattle.std.specs.Prelude.{◌≡◌, ◌⊎◌, ℤ, ℕ, zero, suc, ◌+◌, ◌^◌, ◌<◌, ◌≤◌, nat_eq, cond, Bool, true, false, IsTrue, Option, Some, None}
use Rattle.std.specs.Prelude.{List, [], ◌∷◌, map, length, slice_index_or, sum_by, All}
use Rattle.std.specs.List.{AllByRecursion as Each, AllPairs}
use Rattle.std.specs.Str.{bytes_eq}
use Rattle.arr_core.specs.declared.signature.Signature.{Signature}
use Rattle.arr_core.specs.Stores.{Coverage, Store}
use Rattle.file_bytes.specs.Limits.{block_bytes}
use Rattle.block_file.specs.State.{BlocksState, block}
use Rattle.block_file.specs.Words.{Covers}
use Rattle.tile_index.specs.Index.{IsIndex}
use Rattle.raster_store.specs.declared.held.Held.{Held}
use Rattle.raster_store.specs.declared.snapshot.Snapshot.{Snapshot}
use Rattle.raster_store.specs.Views.{Index, SnapshotView, coverage_in, listed_all, AreBelow}
use Rattle.raster_store.specs.declared.reading.TileAt.{TileAt}
use Rattle.raster_store.specs.declared.reading.TileKey.{TileKey}
use Rattle.raster_store.specs.Fetches.{IsDecoded, IsSpelledAt}
use Rattle.raster_store.specs.Decoded.{Known, Kept, IsKept}

abbrev pub signatures_of : List Held → List Signature
signatures_of held = map (λ (h : Held). h.signature) held

abbrev pub indexes_of : List Held → List (List Index)
indexes_of held = map (λ (h : Held). h.fields.items) held

-- a coverage, and all, by the blocks' content
abbrev pub coverage_of : List ℕ → Held → Coverage
coverage_of content h = coverage_in content h.signature h.fields.items

abbrev pub coverages_of : List ℕ → List Held → Store
coverages_of content held = map (coverage_of content) held

-- the index of a field, by its place
abbrev pub index_at : Held → ℕ → Index
index_at h field = slice_index_or h.fields.items field []

-- an index for each field, with tiles of the domain alone
abbrev pub IsWhole : Held → Type 0
IsWhole h =
    (length h.fields.items ≡ length h.signature.fields)
    × All IsIndex h.fields.items × AreBelow h.signature.domain h.fields.items

-- whether a coverage has a name
abbrev pub has_name : List ℕ → Held → Bool
has_name name h = bytes_eq h.signature.name name

-- no coverage has a name
abbrev pub NoneNamed : List ℕ → List Held → Type 0
NoneNamed name held = Each (λ (h : Held). has_name name h ≡ false) held

-- each coverage has a name of its own
unfoldable pub AreApart : List Held → Type 0
AreApart held = AllPairs (λ (a b : Signature). bytes_eq a.name b.name ≡ false) (signatures_of held)

-- the coverage at a place has a name, and no other has it
abbrev pub IsNamedAt : List ℕ → List Held → ℕ → Type 0
IsNamedAt name [] place = ⊥
IsNamedAt name (h ∷ held) zero = (has_name name h ≡ true) × NoneNamed name held
IsNamedAt name (h ∷ held) (suc place) = (has_name name h ≡ false) × IsNamedAt name held place

-- What is true of a store: each coverage has an index a field and a name of its own, and each listed block is in use at
-- least as often as it is listed, and whole on an honest disk.
pub record IsHeld (s : BlocksState) (held : List Held) : Type 0 where
  pub each : All IsWhole held
  pub apart : AreApart held
  pub counted : Covers s (listed_all (indexes_of held))
  pub whole : IsTrue s.honest → (k : ℕ) → 0 < listed_all (indexes_of held) k → length (block s k) ≡ block_bytes

-- what is held for jobs, by the blocks' content
abbrev pub snapshot_of : List ℕ → Snapshot → SnapshotView
snapshot_of content x = record {
  job = x.job;
  coverages = coverages_of content x.coverages.items;
  indexes = indexes_of x.coverages.items;
}

abbrev pub snapshots_of : List ℕ → List Snapshot → List SnapshotView
snapshots_of content snapshots = map (snapshot_of content) snapshots

-- how often it lists a block
unfoldable pub listed_held : List Snapshot → ℕ → ℕ
listed_held snapshots k = sum_by (λ (x : Snapshot). listed_all (indexes_of x.coverages.items) k) snapshots

-- nothing is held for a job, and where it is held
abbrev pub NoneHeld : ℕ → List Snapshot → Type 0
NoneHeld job snapshots = Each (λ (x : Snapshot). nat_eq x.job job ≡ false) snapshots

abbrev pub IsHeldAt : ℕ → List Snapshot → ℕ → Type 0
IsHeldAt job [] place = ⊥
IsHeldAt job (x ∷ snapshots) zero = nat_eq x.job job ≡ true
IsHeldAt job (x ∷ snapshots) (suc place) = (nat_eq x.job job ≡ false) × IsHeldAt job snapshots place

-- what a number reads: the coverages that are held for it, and where nothing is, those of the store
abbrev pub coverages_for : ℕ → List Held → List Snapshot → List Held
coverages_for job own [] = own
coverages_for job own (x ∷ snapshots) = cond (nat_eq x.job job) x.coverages.items (coverages_for job own snapshots)

-- What is true of all that is held for jobs: each is a store by itself, and each block is in use as often as all of it
-- lists it, besides its uses by others.
pub record AreSnapshots (own : ℕ → ℕ) (s : BlocksState) (snapshots : List Snapshot) : Type 0 where
  pub each : All (λ (x : Snapshot). IsHeld s x.coverages.items) snapshots
  pub counted : Covers s (λ k. own k + listed_held snapshots k)

-- what a version of a coverage tells: its signature, and the index of each of its fields
abbrev pub Version : Type 0
Version = Signature × List Index

abbrev pub told_by : Held → Version
told_by h = (h.signature, h.fields.items)

-- a tile of the one coverage of a store
abbrev pub tile_in : ℕ → ℕ → TileAt
tile_in field tile = record { coverage = 0; field = field; tile = tile }

-- What is known of a tile of a coverage, as a version tells it, is true: cells are those of the tile, and one that was
-- tested is spelled, if the disk is honest.
abbrev pub IsTileIn : BlocksState → Version → TileKey → Known → Type 0
IsTileIn s v key None =
    IsTrue s.honest
    → IsSpelledAt (tile_in key.field key.tile) s.content (coverage_in s.content v.0 v.1 ∷ []) (v.1 ∷ [])
IsTileIn s v key (Some cells) =
    IsDecoded s (coverage_in s.content v.0 v.1 ∷ []) (v.1 ∷ []) (tile_in key.field key.tile) cells

-- as it is held
abbrev pub IsTileOf : BlocksState → Held → ℕ → ℕ → List ℤ → Type 0
IsTileOf s h field tile cells =
    IsDecoded s (coverages_of s.content (h ∷ [])) (indexes_of (h ∷ [])) (tile_in field tile) cells

-- a tile of a coverage is not spelled, if the disk is honest
abbrev pub IsDamagedIn : BlocksState → Held → ℕ → ℕ → Type 0
IsDamagedIn s h field tile =
    IsTrue s.honest → IsSpelledAt (tile_in field tile) s.content (coverages_of s.content (h ∷ [])) (indexes_of (h ∷ []))
    → ⊥

-- The version of a coverage that comes or is written, where `next` is the next one, and the one behind it. At the last
-- number there is none.
abbrev pub Renews : ℕ → Option ℕ → ℕ → Type 0
Renews next version following =
    ((version ≡ Some next) × (following ≡ next + 1))
    ⊎ ((version ≡ None) × (following ≡ next) × (2 ^ 64 ≤ next + 1))

-- what is kept of tiles of the version of a coverage is true of the coverage
abbrev pub AreOf : BlocksState → Held → Kept → Type 0
AreOf s h kept =
    (key : TileKey) (known : Known) → IsKept key known kept → h.version ≡ Some key.version
    → IsTileIn s (told_by h) key known

-- all that is kept was kept, or is true of a coverage
abbrev pub AddsOf : BlocksState → Held → Kept → Kept → Type 0
AddsOf s h old new =
    (key : TileKey) (known : Known) → IsKept key known new
    → IsKept key known old ⊎ ((h.version ≡ Some key.version) × IsTileIn s (told_by h) key known)

-- What versions coverages have are below a number and tell what a table says of them, and what is kept of a tile of
-- such a version is true of theirs.
pub record AreVersions (s : BlocksState) (table : ℕ → Version) (next : ℕ) (kept : Kept) (held : List Held) : Type 0
  where
    pub like : (n : ℕ) → All (λ (h : Held). h.version ≡ Some n → table n ≡ told_by h) held
    pub below : (n : ℕ) → All (λ (h : Held). h.version ≡ Some n → n < next) held
    pub tiles : (key : TileKey) (known : Known) → IsKept key known kept
        → All (λ (h : Held). h.version ≡ Some key.version → IsTileIn s (told_by h) key known) held

-- Coverages of a store, and those that are held for jobs, with the same version are the same, and each tile that is
-- kept of a version is theirs. The number is above all versions, also of tiles whose coverage is there no more.
pub record AreDecoded (s : BlocksState) (next : ℕ) (kept : Kept) (held : List Held) (others : List Snapshot) : Type 0
  where
    pub table : ℕ → Version
    pub known : (key : TileKey) (what : Known) → IsKept key what kept → key.version < next
    pub own : AreVersions s table next kept held
    pub jobs : All (λ (x : Snapshot). AreVersions s table next kept x.coverages.items) others

-- a store, what is held of it for jobs, and the tiles that are kept decoded, by the versions of their coverages
pub record IsStore (s : BlocksState) (held : List Held) (others : List Snapshot) (next : ℕ) (kept : Kept) : Type 0 where
  pub is_held : IsHeld s held
  pub snapshots : AreSnapshots (listed_all (indexes_of held)) s others
  pub decoded : AreDecoded s next kept held others
