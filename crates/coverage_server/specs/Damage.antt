-- Which tiles are in the way of a request: it is refused as damaged only where one of them is not spelled.
use Rattle.std.specs.Prelude.{◌≡◌, ℕ, ◌<◌, List, [], ◌∷◌, length, All, Contains, Ok, IsSomeAnd, slice_get}
use Rattle.arr_core.specs.declared.domain.Axis.{Axis}
use Rattle.arr_core.specs.declared.signature.Signature.{Signature}
use Rattle.arr_core.specs.Domains.{IsBoxOf}
use Rattle.arr_core.specs.Stores.{Coverage, Store, found}
use Rattle.arr_core.specs.Tiles.{tile_box, TileMeets}
use Rattle.arr_core.specs.Fields.{field_place}
use Rattle.file_bytes.specs.Limits.{block_bytes}
use Rattle.block_file.specs.State.{block_at}
use Rattle.raster_store.specs.declared.reading.TileAt.{TileAt}
use Rattle.raster_store.specs.Fetches.{HasTile, IsSpelledAt, IsSpelledOf}
use Rattle.raster_store.specs.Snapshots.{held_for}
use Rattle.raster_store.specs.Views.{Index, SnapshotView, listed_all, listed_snapshots}
use Rattle.wcps_types.specs.Typed.{TypedTree}
use Rattle.kvp_front.specs.declared.request.Interval.{Interval}
use Rattle.kvp_front.specs.Requests.{Asks, insert_coverage, update_coverage, delete_coverage, list_coverages, describe_coverage, process_coverages, submit_query, step_job, fetch_job, cancel_job, expand_template, process_template}
use Rattle.kvp_front.specs.Templates.{Template}
use Rattle.coverage_server.specs.Asking.{TextTyped}
use Rattle.coverage_server.specs.Machine.{State, axes_of, job_of}
use Rattle.coverage_server.specs.Templates.{expansion}
use Rattle.coverage_server.specs.Views.{ServerView}

-- each tile of the coverage with a name is spelled
abbrev pub IsIntactIn : List ℕ → Store → List (List Index) → List ℕ → Type 0
IsIntactIn content coverages indexes name =
    (field tile : ℕ) → IsSpelledOf name field tile content coverages indexes

abbrev pub IsIntactNamed : ServerView → List ℕ → Type 0
IsIntactNamed v name = IsIntactIn v.content v.store v.indexes name

-- Each tile that was spelled is, by its coverage's name, its field and its number; and a whole block of what is held
-- for jobs holds what it held.
pub record KeepsSpelled (old new : ServerView) : Type 0 where
  pub tiles : (name : List ℕ) (field tile : ℕ) → IsSpelledOf name field tile old.content old.store old.indexes
      → IsSpelledOf name field tile new.content new.store new.indexes
  pub held : (k : ℕ) → 0 < listed_snapshots new.held k → length (block_at old.content k) ≡ block_bytes
      → block_at new.content k ≡ block_at old.content k

-- each tile of the coverage at a place is spelled
abbrev pub IsSpelledPlace : List ℕ → Store → List (List Index) → ℕ → Type 0
IsSpelledPlace content coverages indexes place =
    (at : TileAt) → at.coverage ≡ place → HasTile at coverages → IsSpelledAt at content coverages indexes

-- of what is held for a job, each tile is spelled of the coverages that have one of these names
abbrev pub IsIntactHeld : List ℕ → List (List ℕ) → SnapshotView → Type 0
IsIntactHeld content names x =
    (place : ℕ) → IsSomeAnd (slice_get x.coverages place) (λ (c : Coverage). Contains names c.name)
    → IsSpelledPlace content x.coverages x.indexes place

-- so it is with all that is held, each by its job and the names for it
abbrev pub AreIntactHeld : List ℕ → List SnapshotView → List (ℕ × List (List ℕ)) → Type 0
AreIntactHeld content [] [] = Unit {0}
AreIntactHeld content (x ∷ held) (m ∷ names) =
    (m.0 ≡ x.job) × IsIntactHeld content m.1 x × AreIntactHeld content held names
AreIntactHeld content [] (m ∷ names) = ⊥
AreIntactHeld content (x ∷ held) [] = ⊥

-- the blocks that indexes list are whole
abbrev pub AreListedWhole : List ℕ → List (List Index) → Type 0
AreListedWhole content indexes = (k : ℕ) → 0 < listed_all indexes k → length (block_at content k) ≡ block_bytes

-- the blocks of what is held are whole
abbrev pub AreHeldWhole : List ℕ → List SnapshotView → Type 0
AreHeldWhole content held = (k : ℕ) → 0 < listed_snapshots held k → length (block_at content k) ≡ block_bytes

-- so is each tile of the coverages of the store that have a name
abbrev pub IsSpelledNamed : List ℕ → ServerView → Type 0
IsSpelledNamed name v =
    (place : ℕ) → IsSomeAnd (slice_get v.store place) (λ c. c.name ≡ name)
    → IsSpelledPlace v.content v.store v.indexes place

-- and of those that a query reads
abbrev pub AreSpelled : List Signature → ServerView → Type 0
AreSpelled asked v = All (λ (s : Signature). IsSpelledNamed s.name v) asked

-- a tile that a box of a field meets and does not cover is not spelled
abbrev pub SpoilsWrite : List ℕ → ℕ → List Axis → ServerView → Type 0
SpoilsWrite name field box v =
    IsSomeAnd (found name v.store)
    (λ c. (tile : ℕ) × TileMeets c.domain tile box × (IsBoxOf box (tile_box c.domain tile) → ⊥)
    × (IsSpelledOf name field tile v.content v.store v.indexes → ⊥))

-- the same of the field with a name
abbrev pub SpoilsUpdate : List ℕ → List ℕ → List Interval → ServerView → Type 0
SpoilsUpdate name field intervals v =
    IsSomeAnd (found name v.store)
    (λ c. IsSomeAnd (field_place field c.fields) (λ k. SpoilsWrite name k (axes_of intervals) v))

-- the text is a query, and a tile of its coverages is not spelled
abbrev pub SpoilsText : List ℕ → ServerView → Type 0
SpoilsText text v = (q : TypedTree) × TextTyped v.store text (Ok q) × (AreSpelled q.coverages v → ⊥)

-- the same of the text of a template
abbrev pub SpoilsTemplate : Template → ServerView → Type 0
SpoilsTemplate template v = (text : List ℕ) × (expansion template v.store ≡ Ok text) × SpoilsText text v

-- a tile of the coverages that are held for a job is not spelled
abbrev pub SpoilsHeld : ℕ → ServerView → Type 0
SpoilsHeld number v =
    IsSomeAnd (held_for number v.held)
    (λ x. ((place : ℕ) → IsSpelledPlace v.content x.coverages x.indexes place) → ⊥)

-- and the job has units left
abbrev pub SpoilsJob : ℕ → ServerView → State → Type 0
SpoilsJob number v s = IsSomeAnd (job_of number s.jobs) (λ j. 0 < j.left) × SpoilsHeld number v

-- a tile is in the way of a request
abbrev pub Spoils : Asks → ServerView → State → Type 0
Spoils (insert_coverage name intervals fields) v s = ⊥
Spoils (update_coverage name field intervals cells) v s = SpoilsUpdate name field intervals v
Spoils (delete_coverage name) v s = ⊥
Spoils list_coverages v s = ⊥
Spoils (describe_coverage name) v s = ⊥
Spoils (process_coverages query) v s = SpoilsText query v
Spoils (submit_query query) v s = ⊥
Spoils (step_job number units) v s = SpoilsJob number v s
Spoils (fetch_job number) v s = ⊥
Spoils (cancel_job number) v s = ⊥
Spoils (expand_template template) v s = ⊥
Spoils (process_template template) v s = SpoilsTemplate template v
