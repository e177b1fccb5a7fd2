-- Cells for a box: the numbers that they are stored as, and why a write of them is refused.
use Rattle.std.proofs.Common.{◌≡◌, ℕ, zero, suc, List, ◌∷◌, refl, Err, ap, length, map, replicate, true, false, Option, ◌∙◌, arith, All}
use Rattle.std.specs.Prelude.{ℤ, IsSomeAnd, IsErrOf, slice_get}
use Rattle.std.proofs.lemmas.Int.{ints}
use Rattle.std.proofs.lemmas.List.{length-map, length-replicate, get_or-replicate}
use Rattle.std.proofs.lemmas.List.Elements.{All-map, All-weaker}
use Rattle.arr_core.specs.declared.cell.Cell.{Cell}
use Rattle.arr_core.specs.declared.domain.Axis.{Axis}
use Rattle.arr_core.specs.Stores.{found}
use Rattle.arr_core.specs.declared.cell.Cell.TheVariants as cell
use Rattle.arr_core.specs.declared.cell.FieldType.{FieldType}
use Rattle.arr_core.specs.declared.cell.FieldType.TheVariants as kind
use Rattle.arr_core.specs.declared.field.Field.{Field}
use Rattle.arr_core.specs.Cells.{stored, Fits, Holds}
use Rattle.arr_core.specs.Domains.{count, IsBoxOf}
use Rattle.arr_core.proofs.Points.{count-pos}
use Rattle.block_file.specs.State.{BlocksState}
use Rattle.tile_store.specs.declared.fault.Fault.{Fault}
use Rattle.tile_store.specs.declared.fault.Fault.TheVariants as device
use Rattle.tile_store.specs.declared.numbers.Numbers.{Numbers}
use Rattle.tile_store.specs.Numbers.{AreNumbers, numbers_in}
use Rattle.raster_store.specs.Fields.{AreStored, HasKind}
use Rattle.arr_core.specs.declared.signature.Signature.{Signature}
use Rattle.tile_store.specs.Faults.{Refuses}
use Rattle.raster_store.specs.declared.fault.WriteFault.{WriteFault}
use Rattle.raster_store.specs.declared.fault.WriteFault.TheVariants.{Device}
use Rattle.raster_store.specs.Views.{RasterView}
use Rattle.raster_store.specs.Calls.{HasNumbers, RefusesCells, signature_of}
use Rattle.raster_store.specs.Fetches.{IsDamagedUnder}
use Rattle.raster_store.specs.Words.{LacksRoomToWrite, RefusesWrite}
use Rattle.raster_store.proofs.Readings.{kind_gives}

module _ {B : Type 0} {state : B → BlocksState} {v : RasterView B} {name : List ℕ} {field : ℕ} {area : List Axis} {cells : List Cell} {numbers : List ℤ} {catalogue : ℕ} where
  pub refuses_cells : {T : Type 0} (e : WriteFault) → IsSomeAnd (found name v.coverages) (λ c. RefusesCells (signature_of c) field area cells e)
      → ((fault : Fault) → IsErrOf {T = T} (Err e) (Device fault) → fault ≡ device.NoMemory) → RefusesWrite state name field area cells numbers catalogue v e
  refuses_cells e refused only = record {
    for_cells = refused;
    for_room = λ eq. absurd (let no : device.NoRoom ≡ device.NoMemory = only device.NoRoom (ap Err eq) in cc);
    for_damage = λ eq. absurd (let no : device.Damaged ≡ device.NoMemory = only device.Damaged (ap Err eq) in cc);
  }

  pub refuses_device : {T : Type 0} (fault : Fault) → HasNumbers name field area cells v.coverages → Refuses {T = T} (Err fault) (IsDamagedUnder state name field area v) (LacksRoomToWrite state name field area numbers catalogue v)
      → RefusesWrite state name field area cells numbers catalogue v (Device fault)
  refuses_device fault has why = record {
    for_cells = has;
    for_room = λ eq. why.for_room (let e : fault ≡ device.NoRoom = cc in ap Err e);
    for_damage = λ eq. why.for_damage (let e : fault ≡ device.Damaged = cc in ap Err e);
  }

-- one cell at every point, as it is stored
pub stored_same : (n : ℕ) (cell : Cell) → map stored (replicate n cell) ≡ replicate n (stored cell)
stored_same zero cell = refl
stored_same (suc n) cell = ap (λ (l : List ℤ). stored cell ∷ l) (stored_same n cell)

-- a cell that a field may have
pub fits_stored : (k : FieldType) (x : Cell) → Holds k x → Fits k (stored x)
fits_stored kind.Bool (cell.Bool true) h = (omega (arith, ints), omega (arith, ints))
fits_stored kind.Bool (cell.Bool false) h = (omega (arith, ints), omega (arith, ints))
fits_stored kind.Bool (cell.Int n) h = absurd h
fits_stored k (cell.Int n) h = h
fits_stored k (cell.Bool b) h = absurd h

pub fits_each : (k : FieldType) (area : List Axis) (cells : List Cell) (list : List ℤ) → list ≡ map stored cells
    → length cells ≡ count area → All (Holds k) cells → (length list ≡ count area) × All (Fits k) list
fits_each k area cells list same long h =
    let fit = All-weaker (Holds k) (λ (x : Cell). Fits k (stored x)) (fits_stored k) cells h in
    rw same (length-map cells stored ∙ long, All-map (Fits k) stored cells fit)

-- cells that a field may have in a box, and their numbers
pub stored_for : (s : Signature) (field : ℕ) (area : List Axis) (kind : FieldType) (cells : List Cell) (numbers : Numbers) → HasKind s.fields field kind
    → IsBoxOf s.domain area → length cells ≡ count area → All (Holds kind) cells → AreNumbers kind area numbers
    → numbers_in area numbers ≡ map stored cells → AreStored s field area cells numbers
stored_for s field area kind cells numbers has box long all are same = (
  (box, (long, kind_gives (slice_get s.fields field) kind (λ k. All (Holds k) cells) has all)),
  kind_gives (slice_get s.fields field) kind (λ k. AreNumbers k area numbers) has are,
  same,
)

-- one cell at every point of a box that the field may not have
pub refused_same : (o : Option Field) (kind : FieldType) (area : List Axis) (x : Cell) → IsSomeAnd o (λ (f : Field). f.kind ≡ kind)
    → (Holds kind x → ⊥) → IsSomeAnd o (λ (f : Field). All (Holds f.kind) (replicate (count area) x) → ⊥)
refused_same o kind area x has unfit =
    let some = count-pos area in
    kind_gives o kind (λ k. All (Holds k) (replicate (count area) x) → ⊥) has
    (λ all. unfit (rw (get_or-replicate (count area) 0 x x some) at (all 0 x (omega (arith, length-replicate (count area) x, some)))))
