-- When coverages are inserted and boxes written, and why not.
use Rattle.std.specs.Prelude.{◌≡◌, ℕ, ◌⊎◌, IsTrue, List, length, All, Option, Some, None, SomeIff, option_map, slice_get, IsSomeAnd, Vec, ⊤}
use Rattle.std.specs.Borrow.{Bor}
use Rattle.std.specs.declared.alloc.Global.{Global}
use Rattle.arr_core.specs.declared.refusal.Refusal.{Refusal}
use Rattle.arr_core.specs.declared.refusal.Refusal.TheVariants.{BadDomain, BadField, CoverageExists, OutsideDomain, TooManyCoverages, ValueCount, ValueRange}
use Rattle.arr_core.specs.declared.cell.FieldType.{FieldType}
use Rattle.arr_core.specs.declared.domain.Axis.{Axis}
use Rattle.arr_core.specs.declared.field.Field.{Field}
use Rattle.arr_core.specs.declared.signature.Signature.{Signature}
use Rattle.arr_core.specs.Cells.{Holds}
use Rattle.arr_core.specs.Domains.{count, IsBoxOf}
use Rattle.arr_core.specs.Stores.{Coverage, Store, found, inserted, updated}
use Rattle.catalogue.specs.declared.error.InsertError.{InsertError}
use Rattle.catalogue.specs.declared.error.InsertError.TheVariants as insertion
use Rattle.catalogue.specs.Signatures.{IsRefused, MayInsert}
use Rattle.tile_store.specs.declared.fault.Fault.{Fault}
use Rattle.tile_store.specs.declared.fault.Fault.TheVariants as device
use Rattle.raster_store.specs.declared.fault.WriteFault.{WriteFault}
use Rattle.raster_store.specs.declared.fault.WriteFault.TheVariants as writing
use Rattle.raster_store.specs.Calls.{signature_of}
use Rattle.kvp_front.specs.Contents.{Cells, fill, values}
use Rattle.kvp_front.specs.declared.request.Interval.{Interval}
use Rattle.coverage_server.specs.Damage.{SpoilsWrite}
use Rattle.coverage_server.specs.Machine.{FitBounds, axes_of}
use Rattle.coverage_server.specs.Layouts.{LaysBox, LaysNone, layout_of}
use Rattle.coverage_server.specs.Room.{LacksRoomToInsert, LacksRoomToWrite, numbers_of}
use Rattle.coverage_server.specs.Views.{ServerView, signatures_of}
use Rattle.coverage_server.specs.declared.error.AnswerError.{AnswerError}
use Rattle.coverage_server.specs.declared.error.AnswerError.TheVariants.{Named, NoMemory, DiskFault, NoRoom, Damaged}

-- the axes that intervals spell, or nothing where a bound does not fit 32 bits
abbrev pub GivesAxes : List Interval → Option (Vec Axis Global) → Type 0
GivesAxes intervals given = SomeIff (option_map (λ (v : Vec Axis Global). v.items) given) (All FitBounds intervals)
    (axes_of intervals)

-- this refusal, for this cause, or want of memory
abbrev pub IsRefusedFor : Refusal → Type 0 → AnswerError → Type 0
IsRefusedFor refusal cause e = ((e ≡ Named refusal) × cause) ⊎ (e ≡ NoMemory)

-- how the refusals below are told
abbrev pub device_refusal : Fault → AnswerError
device_refusal device.NoMemory = NoMemory
device_refusal device.DiskFault = DiskFault
device_refusal device.NoRoom = NoRoom
device_refusal device.Damaged = Damaged

abbrev pub write_refusal : WriteFault → AnswerError
write_refusal writing.OutsideDomain = Named OutsideDomain
write_refusal writing.ValueCount = Named ValueCount
write_refusal writing.ValueRange = Named ValueRange
write_refusal (writing.Device fault) = device_refusal fault

abbrev pub insert_refusal : InsertError → AnswerError
insert_refusal insertion.CoverageExists = Named CoverageExists
insert_refusal insertion.BadDomain = Named BadDomain
insert_refusal insertion.BadField = Named BadField
insert_refusal insertion.TooManyCoverages = Named TooManyCoverages
insert_refusal insertion.NoMemory = NoMemory

-- the coverage with a name, and what is told of it
abbrev pub FindsCoverage : List ℕ → Store → Option (Bor Signature) → Type 0
FindsCoverage name store None = found name store ≡ None
FindsCoverage name store (Some s) = (c : Coverage) × (found name store ≡ Some c) × (s.now ≡ signature_of c)

-- a coverage came that is 0 or false everywhere, without tiles
pub record InsertsCoverage (s : Signature) (old new : ServerView) : Type 0 where
  pub may : MayInsert (signatures_of old.store) s
  pub inserted : new.store ≡ inserted s.name s.domain s.fields old.store
  pub lays : LaysNone s (layout_of old) (layout_of new)

-- a coverage is not inserted: the catalogue refuses it, memory is wanting, or room
abbrev pub InsertRefused : ServerView → Signature → AnswerError → Type 0
InsertRefused v s (Named refusal) =
    (e : InsertError) × (insert_refusal e ≡ Named refusal) × IsRefused (signatures_of v.store) s e
InsertRefused v s NoMemory = ⊤
InsertRefused v s DiskFault = ⊥
InsertRefused v s NoRoom = LacksRoomToInsert s v.store (layout_of v)
InsertRefused v s Damaged = ⊥

-- cells for a box of a field of this type: as many as the box has points, and all of the type
abbrev pub AreCellsOf : FieldType → List Axis → Cells → Type 0
AreCellsOf kind box (fill cell) = Holds kind cell
AreCellsOf kind box (values cells) = (length cells ≡ count box) × All (Holds kind) cells

-- these cells are refused so
abbrev pub AreRefused : FieldType → List Axis → Cells → Refusal → Type 0
AreRefused kind box (fill cell) refusal = (¬ (Holds kind cell)) × (refusal ≡ ValueRange)
AreRefused kind box (values cells) refusal =
    ((¬ (length cells ≡ count box)) × (refusal ≡ ValueCount))
    ⊎ ((length cells ≡ count box) × (¬ (All (Holds kind) cells)) × (refusal ≡ ValueRange))

-- a box of the coverage with a name, and cells for its field at a place
abbrev pub MayWrite : List ℕ → ℕ → List Axis → Cells → Store → Type 0
MayWrite name field box cells store =
    IsSomeAnd (found name store) (λ c. IsBoxOf c.domain box
    × IsSomeAnd (slice_get c.fields field) (λ (f : Field). AreCellsOf f.kind box cells))

-- Cells were written into a box of a field: they may be, and where the disk is honest the store is function update on
-- the box, and the tiles that it meets take as many blocks as they need.
pub record WritesCells (name : List ℕ) (field : ℕ) (box : List Axis) (cells : Cells) (old new : ServerView) : Type 0
  where
    pub may : MayWrite name field box cells old.store
    pub written : IsTrue old.honest → new.store ≡ updated name field box (numbers_of box cells) old.store
    pub lays : IsTrue old.honest → LaysBox name field box old.store new.store (layout_of old) (layout_of new)

-- no box of the coverage, or no cells for the field
abbrev pub IsNoWrite : Coverage → ℕ → List Axis → Cells → Refusal → Type 0
IsNoWrite c field box cells refusal =
    ((¬ (IsBoxOf c.domain box)) × (refusal ≡ OutsideDomain))
    ⊎ (IsBoxOf c.domain box × IsSomeAnd (slice_get c.fields field) (λ (f : Field). AreRefused f.kind box cells refusal))

abbrev pub WriteRefused : List ℕ → ℕ → List Axis → Cells → ServerView → AnswerError → Type 0
WriteRefused name field box cells v (Named refusal) =
    IsSomeAnd (found name v.store) (λ c. IsNoWrite c field box cells refusal)
WriteRefused name field box cells v NoMemory = ⊤
WriteRefused name field box cells v DiskFault = ⊤
WriteRefused name field box cells v NoRoom =
    IsTrue v.honest → LacksRoomToWrite name field box cells v.store (layout_of v)
WriteRefused name field box cells v Damaged = IsTrue v.honest → SpoilsWrite name field box v
