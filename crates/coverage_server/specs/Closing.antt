-- What a closing writes: the metadata of what a server holds.
use Rattle.std.specs.Prelude.{◌≡◌, ℕ, ◌<◌, List, length, IsTrue}
use Rattle.block_file.specs.State.{block_at}
use Rattle.file_bytes.specs.declared.form.Version.TheVariants.{Two}
use Rattle.block_file.specs.Format.{IsClosed, Closes, TellsVersion, link, first_of, chain_blocks}
use Rattle.metadata.specs.Metadata.{metadata_bytes}
use Rattle.raster_store.specs.Views.{Index, AreIntact, listed_all}
use Rattle.coverage_server.specs.Disk.{HoldsStore, ListsStore}
use Rattle.coverage_server.specs.Views.{ServerView, IsSound, signatures_of}

-- the catalogue of the store, and the indexes of each coverage
abbrev pub metadata_held : ServerView → List ℕ
metadata_held v = metadata_bytes (signatures_of v.store) v.indexes

-- closing makes the metadata that a chain held that of the closed file, of version 2
abbrev pub ClosesFile : ℕ → ℕ → List ℕ → List ℕ → Type 0
ClosesFile first size old new = Closes first size old new × TellsVersion Two new

-- The file is closed with this metadata, as one of version 2, and no block of its chain holds a tile.
pub record IsWritten (content metadata : List ℕ) (indexes : List (List Index)) : Type 0 where
  pub closed : IsClosed content metadata
  pub version : TellsVersion Two content
  pub apart : (i : ℕ) → i < chain_blocks (length metadata)
      → listed_all indexes (link (block_at content) (first_of content) i) ≡ 0

-- on an honest disk the file is closed with what the server held
abbrev pub WritesHeld : ServerView → ServerView → Type 0
WritesHeld old new = IsTrue old.honest → IsWritten new.content (metadata_held old) new.indexes

-- What bytes are below a server: once a closing has been written they list its coverages, and below a sound one hold
-- its store.
pub record HoldsClosed (v : ServerView) (content : List ℕ) : Type 0 where
  pub lists : IsWritten content (metadata_held v) v.indexes → IsTrue v.honest → ListsStore content v.store v.indexes
  pub held : IsWritten content (metadata_held v) v.indexes → IsSound v → HoldsStore content v.store
  pub intact : IsSound v → AreIntact content v.store v.indexes
