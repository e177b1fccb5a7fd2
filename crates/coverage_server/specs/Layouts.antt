-- Where the tiles of a store lie, and what is held for jobs: which blocks are in use follows, and so how many are free.
-- How each request changes it.
use Rattle.std.specs.Prelude.{◌≡◌, ◌⊎◌, ℕ, List, [], ◌∷◌, ◌++◌, map, Option, Some, Ok, IsSomeAnd}
use Rattle.arr_core.specs.declared.domain.Axis.{Axis}
use Rattle.arr_core.specs.declared.signature.Signature.{Signature}
use Rattle.arr_core.specs.Stores.{Store, found}
use Rattle.arr_core.specs.Fields.{field_place}
use Rattle.http_front.specs.declared.reply.Reply.{Reply}
use Rattle.http_front.specs.declared.reply.Reply.TheVariants.{Text, Csv, Refused}
use Rattle.kvp_front.specs.declared.request.Insertion.{Insertion}
use Rattle.kvp_front.specs.declared.request.Interval.{Interval}
use Rattle.kvp_front.specs.declared.request.Update.{Update}
use Rattle.kvp_front.specs.Requests.{Asks, insert_coverage, update_coverage, delete_coverage, list_coverages, describe_coverage, process_coverages, submit_query, step_job, fetch_job, cancel_job, expand_template, process_template}
use Rattle.raster_store.specs.Calls.{indexes_with, indexes_without}
use Rattle.raster_store.specs.Snapshots.{IsSnapshot, without_job}
use Rattle.raster_store.specs.Tiles.{entry_in, IsMet, TakesItsBlocks}
use Rattle.raster_store.specs.Views.{Index, RasterView, SnapshotView}
use Rattle.wcps_types.specs.Typed.{TypedTree}
use Rattle.coverage_server.specs.Asking.{TextTyped}
use Rattle.coverage_server.specs.Machine.{axes_of}
use Rattle.coverage_server.specs.Views.{ServerView}

-- The index of each field of each coverage, which tells the blocks of each tile; and the coverages that are held for
-- jobs, as they were, with the indexes that they had.
pub record Layout : Type 0 where
  pub indexes : List (List Index)
  pub held : List SnapshotView

abbrev pub layout_of : ServerView → Layout
layout_of v = record { indexes = v.indexes; held = v.held }

-- a store in its layout
abbrev pub laid : Store → Layout → RasterView (Unit {0})
laid store l = record { coverages = store; indexes = l.indexes; snapshots = l.held; fetched = 0; blocks = tt }

-- A box of a field was written: each tile that it meets takes as many blocks as its cells then need, each other one is
-- listed as it was, and the same is held.
pub record LaysBox (name : List ℕ) (field : ℕ) (box : List Axis) (store store' : Store) (old new : Layout)
    : Type 0 where
  pub takes : (n : List ℕ) (f tile : ℕ) → IsMet name field box (laid store old) n f tile
      → TakesItsBlocks n f tile (laid store' new)
  pub others : (n : List ℕ) (f tile : ℕ) → (IsMet name field box (laid store old) n f tile → ⊥)
      → entry_in n f tile (laid store' new) ≡ entry_in n f tile (laid store old)
  pub held : new.held ≡ old.held

-- the same of the field with a name
abbrev pub LaysUpdate : List ℕ → List ℕ → List Interval → Store → Store → Layout → Layout → Type 0
LaysUpdate name field intervals store store' old new =
    IsSomeAnd (found name store)
    (λ c. IsSomeAnd (field_place field c.fields) (λ k. LaysBox name k (axes_of intervals) store store' old new))

-- a new coverage has no tiles
abbrev pub LaysNone : Signature → Layout → Layout → Type 0
LaysNone s old new = new ≡ record { indexes = indexes_with s old.indexes; held = old.held }

-- the signature of the coverage that an insertion asks for
abbrev pub asked_signature : Insertion → Signature
asked_signature r = record { name = r.coverage; domain = axes_of r.intervals.items; fields = r.fields.items }

-- how the tiles of a server lie after an insertion and after an update that were answered
abbrev pub LaysInsertion : Insertion → ServerView → ServerView → Type 0
LaysInsertion r old new = LaysNone (asked_signature r) (layout_of old) (layout_of new)

abbrev pub LaysChange : Update → ServerView → ServerView → Type 0
LaysChange r old new =
    LaysUpdate r.coverage r.field r.intervals.items old.store new.store (layout_of old) (layout_of new)

-- a coverage that was taken out has its tiles no more
abbrev pub LaysRest : List ℕ → Store → Layout → Layout → Type 0
LaysRest name store old new = new ≡ record { indexes = indexes_without name store old.indexes; held = old.held }

-- the coverages that a query names came to be held, as they are, for the job with the next number
pub record LaysHeld (query : List ℕ) (store : Store) (next : Option ℕ) (old new : Layout) : Type 0 where
  pub tree : TypedTree
  pub typed : TextTyped store query (Ok tree)
  pub snapshot : SnapshotView
  pub number : next ≡ Some snapshot.job
  pub is : IsSnapshot (map (λ (s : Signature). s.name) tree.coverages) store old.indexes snapshot
  pub held : new ≡ record { indexes = old.indexes; held = old.held ++ snapshot ∷ [] }

-- so it is with a server, where `next` was the next number
abbrev pub LaysQuery : List ℕ → ServerView → Option ℕ → ServerView → Type 0
LaysQuery query old next new = LaysHeld query old.store next (layout_of old) (layout_of new)

-- what is held for a job is let go, or still held
abbrev pub LetsGo : ℕ → Layout → Layout → Type 0
LetsGo number old new = (new ≡ old) ⊎ (new ≡ record { indexes = old.indexes; held = without_job number old.held })

-- what a request that is answered makes of the layout, where the store was `store` and is `store'`, and `next` was the
-- next number
abbrev pub Lays : Asks → Store → Option ℕ → Store → Layout → Layout → Type 0
Lays (insert_coverage name intervals fields) store next store' old new =
    LaysNone (record { name = name; domain = axes_of intervals; fields = fields }) old new
Lays (update_coverage name field intervals cells) store next store' old new =
    LaysUpdate name field intervals store store' old new
Lays (delete_coverage name) store next store' old new = LaysRest name store old new
Lays list_coverages store next store' old new = new ≡ old
Lays (describe_coverage name) store next store' old new = new ≡ old
Lays (process_coverages query) store next store' old new = new ≡ old
Lays (submit_query query) store next store' old new = LaysHeld query store next old new
Lays (step_job number units) store next store' old new = LetsGo number old new
Lays (fetch_job number) store next store' old new = new ≡ old
Lays (cancel_job number) store next store' old new = LetsGo number old new
Lays (expand_template template) store next store' old new = new ≡ old
Lays (process_template template) store next store' old new = new ≡ old

-- a refusal leaves it as it was
abbrev pub LaysBy : Asks → Reply → Store → Option ℕ → Store → Layout → Layout → Type 0
LaysBy asks (Text text) store next store' old new = Lays asks store next store' old new
LaysBy asks (Csv text) store next store' old new = Lays asks store next store' old new
LaysBy asks (Refused code) store next store' old new = new ≡ old
