-- What a write answers.
use Rattle.std.proofs.Common.{◌≡◌, ℕ, zero, suc, ◌+◌, ◌*◌, ◌<◌, List, [], ◌∷◌, ◌++◌, length, Option, None, Some, Result, Ok, Err, OnOk, OnErr, refl, sym, ap, ◌∙◌, subst, arith, inl, inr, Contains, is_some, false}
use Rattle.std.specs.Prelude.{All, IsSomeAnd, replicate, slice_get, option_copied, option_map}
use Rattle.std.specs.Borrow.{Bor}
use Rattle.std.proofs.lemmas.List.{length-replicate}
use Rattle.std.proofs.lemmas.Option.{slice_get_cases}
use Rattle.std.proofs.lemmas.List.Elements.{All-replicate, All-head}
use Rattle.arr_core.specs.declared.cell.Cell.{Cell}
use Rattle.arr_core.specs.declared.domain.Axis.{Axis}
use Rattle.arr_core.specs.declared.field.Field.{Field}
use Rattle.arr_core.specs.declared.signature.Signature.{Signature}
use Rattle.arr_core.specs.Cells.{Holds}
use Rattle.arr_core.specs.Domains.{count, gap, IsBoxOf}
use Rattle.arr_core.specs.Stores.{Coverage, Store, found}
use Rattle.block_file.specs.View.{BlockFileView, state_of}
use Rattle.catalogue.specs.Bytes.{catalogue_bytes}
use Rattle.catalogue.specs.declared.error.NoSuchCoverage.{NoSuchCoverage}
use Rattle.catalogue.specs.Signatures.{names_of, without, listed}
use Rattle.tile_store.specs.declared.fault.Fault.TheVariants as device
use Rattle.raster_store.specs.declared.fault.WriteFault.{WriteFault}
use Rattle.raster_store.specs.declared.fault.WriteFault.TheVariants as writing
use Rattle.raster_store.specs.Views.{RasterView, metadata_size}
use Rattle.raster_store.specs.Calls.{signature_of, AreListed, HasField, index_of, HasNumbers, LacksRoomFor}
use Rattle.raster_store.specs.Snapshots.{KeepsSnapshots}
use Rattle.raster_store.specs.Words.{FillsBox, WritesBox, RefusesFill, RefusesBox}
use Rattle.kvp_front.specs.Contents.{Cells, fill, values}
use Rattle.coverage_server.specs.Layouts.{layout_of}
use Rattle.coverage_server.specs.Room.{LacksRoomToWrite, numbers_of}
use Rattle.coverage_server.specs.Views.{signatures_of}
use Rattle.coverage_server.specs.Writing.{write_refusal, FindsCoverage, MayWrite, WritesCells, WriteRefused}
use Rattle.coverage_server.specs.declared.error.AnswerError.TheVariants.{DiskFault}
use Rattle.coverage_server.proofs.FreeLemmas.{IsReady, shown, ready_free}
use Rattle.coverage_server.proofs.RoomLemmas.{listed_as, room_alike}
use Rattle.coverage_server.proofs.StoreLemmas.{listed_alike, listed_last, without_last}
use Rattle.coverage_server.proofs.TileLemmas.{some_both}

-- what is there has more
some_and : {X : Type 0} (o : Option X) (P Q : X → Type 0) → ((x : X) → P x → Q x) → IsSomeAnd o P → IsSomeAnd o Q
some_and None P Q f h = absurd h
some_and (Some x) P Q f h = f x h

pub some_there : {X : Type 0} (o : Option X) (P Q : X → Type 0) → ((x : X) → o ≡ Some x → P x → Q x) → IsSomeAnd o P
    → IsSomeAnd o Q
some_there None P Q f h = absurd h
some_there (Some x) P Q f h = f x refl h

some_with : {X : Type 0} (o : Option X) (P R Q : X → Type 0) → ((x : X) → o ≡ Some x → P x → R x → Q x) → IsSomeAnd o P
    → IsSomeAnd o R → IsSomeAnd o Q
some_with None P R Q f h k = absurd h
some_with (Some x) P R Q f h k = f x refl h k

some_of : (o : Option Coverage) → option_map signature_of o ≡ None → o ≡ None
some_of None e = refl
some_of (Some c) e = absurd cc

there_of : (o : Option Coverage) (s : Signature) → option_map signature_of o ≡ Some s → (c : Coverage) × (o ≡ Some c) × (s ≡ signature_of c)
there_of None s e = absurd cc
there_of (Some c) s e = (c, refl, cc)

-- a look in the catalogue finds what is told of the coverage
pub finds : (name : List ℕ) (store : Store) (catalogue : List Signature) (r : Option (Bor Signature)) → catalogue ≡ signatures_of store
    → option_copied r ≡ listed name catalogue → FindsCoverage name store r
finds name store catalogue None same is = some_of (found name store) (sym (listed_alike name store) ∙ ap (listed name) (sym same) ∙ sym is)
finds name store catalogue (Some b) same is = there_of (found name store) b.now (sym (listed_alike name store) ∙ ap (listed name) (sym same) ∙ sym is)

pub not_there : (name : List ℕ) (store : Store) (r : Option (Bor Signature)) → is_some r ≡ false → FindsCoverage name store r → found name store ≡ None
not_there name store None e x = x
not_there name store (Some b) e x = absurd cc

-- a signature that came last was taken out again
pub taken_out : {X : Type 0} (r : Result X NoSuchCoverage) (s : Signature) (held mid new : List Signature) → mid ≡ held ++ s ∷ [] → OnOk r (new ≡ without s.name mid)
    → OnErr r (¬ Contains (names_of mid) s.name) → (Contains (names_of held) s.name → ⊥) → new ≡ held
taken_out (Ok x) s held mid new is out none fresh = out ∙ ap (without s.name) is ∙ without_last s held fresh
taken_out (Err e) s held mid new is out none fresh = absurd (none (subst (λ (l : List Signature). Contains (names_of l) s.name) (sym is) (listed_last s held)))

-- all of the same
positive : (n m : ℕ) → 0 < m → 0 < (n + 1) * m
positive n m h = grind arith

some_points : (area : List Axis) → 0 < count area
some_points [] = omega arith
some_points (a ∷ area) = positive (gap a.lo a.hi) (count area) (some_points area)

first_of_same : {X : Type 0} (P : X → Type 0) (n : ℕ) (x : X) → 0 < n → All P (replicate n x) → P x
first_of_same P n x some h = by_size n some h
  where
    by_size : (n : ℕ) → 0 < n → All P (replicate n x) → P x
    by_size zero some h = absurd (omega arith)
    by_size (suc n) some h = All-head P x (replicate n x) h

pub fill_may : (name : List ℕ) (field : ℕ) (area : List Axis) (cell : Cell) (store : Store) → HasNumbers name field area (replicate (count area) cell) store
    → MayWrite name field area (fill cell) store
fill_may name field area cell store h =
    some_and (found name store) _ _ (λ c x. (x.0, some_and (slice_get c.fields field) _ _ (λ (f : Field) all. first_of_same (Holds f.kind) (count area) cell (some_points area) all) x.1.1)) h

pub put_may : (name : List ℕ) (field : ℕ) (area : List Axis) (cells : List Cell) (store : Store) → HasNumbers name field area cells store
    → MayWrite name field area (values cells) store
put_may name field area cells store h =
    some_and (found name store) _ _ (λ c x. (x.0, some_and (slice_get c.fields field) _ _ (λ (f : Field) all. (x.1.0, all)) x.1.1)) h

-- there is a field at a place of the coverage
some_field : (fields : List Field) (k : ℕ) (P : Field → Type 0) → k < length fields → ((f : Field) → P f) → IsSomeAnd (slice_get fields k) P
some_field fields k P within all = elim (slice_get_cases fields k).1 [
  | inl c ↦ subst (λ (o : Option Field). IsSomeAnd o P) (sym c.2) (all c.0)
  | inr c ↦ absurd (let past = c.0 in omega (arith, past, within))
]

-- room is wanting by what the server tells
wanting : (name : List ℕ) (field : ℕ) (area : List Axis) (given : Cells) (size : ℕ) (catalogue : List Signature)
    (cells : RasterView BlockFileView) → IsReady catalogue cells
    → AreListed (state_of cells.blocks) cells.coverages cells.indexes → size ≡ length (catalogue_bytes catalogue)
    → IsSomeAnd (found name cells.coverages) (λ c. IsBoxOf c.domain area)
    → LacksRoomFor name field area (numbers_of area given) size (state_of cells.blocks) cells.coverages cells.indexes
    → LacksRoomToWrite name field area given cells.coverages (layout_of (shown cells))
wanting name field area given size catalogue cells ready listed is box lacks =
    let bytes : size ≡ length (catalogue_bytes (signatures_of cells.coverages)) = is ∙ ap (λ (l : List Signature). length (catalogue_bytes l)) ready.signatures in
    let free = ready_free catalogue cells ready in
    some_with (found name cells.coverages) _ _ _
    (λ c at low x. some_there (slice_get c.fields field) _ _
    (λ (f : Field) has y. some_there (index_of name field cells.coverages cells.indexes) _ _
    (λ i of z.
    let own = listed_as cells.blocks.content name field cells.coverages cells.indexes c i listed.values at of in
    let room = room_alike cells.blocks.content c field f i area (numbers_of area given) z.2.0 z.0 own has low z.2.1 in
    (z.0, z.1 ∙ ap (λ (n : ℕ). metadata_size n cells.indexes) bytes, (z.2.0, z.2.1, omega (arith, free, room, z.2.2))))
    y) x) box lacks

-- the box of cells that are neither too many nor of another type
boxed : (name : List ℕ) (field : ℕ) (area : List Axis) (list : List Cell) (store : Store)
    → HasNumbers name field area list store → IsSomeAnd (found name store) (λ c. IsBoxOf c.domain area)
boxed name field area list store x = some_and (found name store) _ _ (λ c y. y.0) x

module _ (name : List ℕ) (field : ℕ) (area : List Axis) (size : ℕ) (catalogue : List Signature) (cells : RasterView BlockFileView) (ready : IsReady catalogue cells)
    (listed_all : AreListed (state_of cells.blocks) cells.coverages cells.indexes)
    (is : size ≡ length (catalogue_bytes catalogue)) where
  -- why one cell is not written everywhere
  pub fill_refused : (cell : Cell) (fault : WriteFault) → RefusesFill state_of name field area cell size cells fault
      → WriteRefused name field area (fill cell) (shown cells) (write_refusal fault)
  fill_refused cell writing.OutsideDomain x = some_and (found name cells.coverages) _ _ (λ c y. inl (y, refl)) x.for_cells
  fill_refused cell writing.ValueCount x = some_and (found name cells.coverages) _ _ (λ c y. absurd (y.1 (length-replicate (count area) cell))) x.for_cells
  fill_refused cell writing.ValueRange x =
      some_and (found name cells.coverages) _ _
      (λ c y. inr (y.0, some_and (slice_get c.fields field) _ _ (λ (f : Field) none. ((λ h. none (All-replicate (Holds f.kind) (count area) cell h)), refl)) y.2)) x.for_cells
  fill_refused cell (writing.Device device.NoMemory) x = tt
  fill_refused cell (writing.Device device.DiskFault) x = tt
  fill_refused cell (writing.Device device.NoRoom) x =
      λ sure. wanting name field area (fill cell) size catalogue cells ready listed_all is
      (boxed name field area (replicate (count area) cell) cells.coverages x.for_cells) (x.for_room refl sure)
  fill_refused cell (writing.Device device.Damaged) x = λ sure. x.for_damage refl sure

  -- why cells are not written
  pub put_refused : HasField name field cells.coverages → (list : List Cell) (fault : WriteFault) → RefusesBox state_of name field area list size cells fault
      → WriteRefused name field area (values list) (shown cells) (write_refusal fault)
  put_refused has list writing.OutsideDomain x = some_and (found name cells.coverages) _ _ (λ c y. inl (y, refl)) x.for_cells
  put_refused has list writing.ValueCount x =
      some_both (found name cells.coverages) {P = λ c. field < length c.fields}
      (λ c within y. inr (y.0, some_field c.fields field _ within (λ (f : Field). inl (y.1, refl)))) has x.for_cells
  put_refused has list writing.ValueRange x =
      some_and (found name cells.coverages) _ _
      (λ c y. inr (y.0, some_and (slice_get c.fields field) _ _ (λ (f : Field) none. inr (y.1, none, refl)) y.2)) x.for_cells
  put_refused has list (writing.Device device.NoMemory) x = tt
  put_refused has list (writing.Device device.DiskFault) x = tt
  put_refused has list (writing.Device device.NoRoom) x = λ sure. wanting name field area (values list) size catalogue
      cells ready listed_all is (boxed name field area list cells.coverages x.for_cells) (x.for_room refl sure)
  put_refused has list (writing.Device device.Damaged) x = λ sure. x.for_damage refl sure

-- what was written, by what the server tells
pub fill_done : (name : List ℕ) (field : ℕ) (area : List Axis) (cell : Cell) (size : ℕ)
    (old new : RasterView BlockFileView) → FillsBox state_of name field area cell size old new
    → KeepsSnapshots state_of old new
    → WritesCells name field area (fill cell) (shown old) (shown new)
fill_done name field area cell size old new x held = record {
  may = fill_may name field area cell old.coverages x.0;
  written = x.1.coverages;
  lays = λ sure. let t = x.1.tiles sure in record { takes = t.takes; others = t.others; held = held.values sure };
}

pub put_done : (name : List ℕ) (field : ℕ) (area : List Axis) (list : List Cell) (size : ℕ)
    (old new : RasterView BlockFileView) → WritesBox state_of name field area list size old new
    → KeepsSnapshots state_of old new
    → WritesCells name field area (values list) (shown old) (shown new)
put_done name field area list size old new x held = record {
  may = put_may name field area list old.coverages x.0;
  written = x.1.coverages;
  lays = λ sure. let t = x.1.tiles sure in record { takes = t.takes; others = t.others; held = held.values sure };
}
