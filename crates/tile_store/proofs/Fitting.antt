-- The numbers of a tile are in the range of its field's type.
use Rattle.std.proofs.Common.{flat_map, suc, ◌≡◌, ℕ, ◌+◌, ◌<◌, ◌≤◌, List, [], ◌∷◌, length, get_or, replicate, arith, refl, sym, subst, All, inl, inr, ℤ, pos, if◌then◌else◌}
use Rattle.arr_core.specs.declared.domain.Axis.{Axis}
use Rattle.arr_core.specs.Domains.{count, AreOrdered, IsInside, is_inside, rank_of, point_at}
use Rattle.tile_store.specs.Overlays.{Overlaid}
use Rattle.tile_store.specs.declared.numbers.Numbers.{Numbers}
use Rattle.tile_store.specs.declared.numbers.Numbers.TheVariants.{Same, Each as List_of}
use Rattle.tile_store.specs.Numbers.{AreNumbers, numbers_in, number_of, HasNumbers}
use Rattle.arr_core.proofs.Points.{rank-point, point-inside, rank_of-lt-count}
use Rattle.tile_store.proofs.Rows.{inside_cases}
use Rattle.std.proofs.lemmas.Int.{ints}
use Rattle.std.proofs.lemmas.List.{get_or_default, get_or-replicate}
use Rattle.std.proofs.lemmas.List.Elements.{All-nil, All-append, All-replicate}
use Rattle.std.proofs.lemmas.List.Concat.{flat_map-cons}
use Rattle.std.proofs.lemmas.List.FromFn.{length-map-range_with_len, get_or-map-range_with_len}
use Rattle.arr_core.specs.declared.cell.FieldType.{FieldType}
use Rattle.arr_core.specs.declared.cell.FieldType.TheVariants as kind
use Rattle.arr_core.specs.Cells.{Fits}
use Rattle.run_tile.specs.declared.run.Run.{Run}
use Rattle.file_bytes.specs.declared.form.Form.{Form}
use Rattle.file_bytes.specs.declared.form.Form.TheVariants.{Runs, Raw}
use Rattle.run_tile.specs.Runs.{IsSpelling, run_at, run_count, first_runs, cells_of}
use Rattle.run_tile.specs.Raw.{Spells}

all-runs : (P : ℤ → Type 0) (runs : List Run) → All (λ (r : Run). P r.value) runs → All P (flat_map (λ (r : Run). replicate r.count r.value) runs)
all-runs P [] h = All-nil P
all-runs P (r ∷ runs) h =
    rw flat_map-cons (All-append P (replicate r.count r.value) _ (All-replicate P r.count r.value (h 0 r (omega arith))) (all-runs P runs (λ i d lt. h (suc i) d (omega (arith, lt)))))

-- cells that are spelled in runs
fits_runs : (k : FieldType) (bytes : List ℕ) (cells : List ℤ) → IsSpelling k bytes cells → All (Fits k) cells
unfolding cells_of first_runs
fits_runs k bytes cells s = rw s.cells_are (all-runs (Fits k) (first_runs k bytes (run_count k bytes)) (λ i d h.
    let below : i < run_count k bytes = omega (arith, h, length-map-range_with_len (run_at k bytes) 0 (run_count k bytes)) in
    rw (get_or-map-range_with_len (run_at k bytes) 0 (run_count k bytes) i i d below (omega arith)) (s.runs i below).2))

-- cells that are spelled in a form
pub fits_spelled : (f : Form) (k : FieldType) (bytes : List ℕ) (cells : List ℤ) → Spells f k bytes cells → All (Fits k) cells
fits_spelled Runs k bytes cells s = fits_runs k bytes cells s
fits_spelled Raw k bytes cells s = s.fit

-- 0 is in each range
pub fits_zero : (k : FieldType) → Fits k (pos 0)
fits_zero kind.Bool = (omega (arith, ints), omega (arith, ints))
fits_zero kind.U8 = (omega (arith, ints), omega (arith, ints))
fits_zero kind.I16 = (omega (arith, ints), omega (arith, ints))
fits_zero kind.I32 = (omega (arith, ints), omega (arith, ints))
fits_zero kind.I64 = (omega (arith, ints), omega (arith, ints))

pub fits_zeros : (k : FieldType) (n : ℕ) (cells : List ℤ) → cells ≡ replicate n (pos 0) → All (Fits k) cells
fits_zeros k n cells is = rw is (All-replicate (Fits k) n (pos 0) (fits_zero k))

-- what is true of the old numbers and of the new ones is true after they are written over one another
pub all_overlaid : (P : ℤ → Type 0) (axes area : List Axis) (number : List ℤ → ℤ) (old new : List ℤ) → length old ≡ count axes → length new ≡ count axes → AreOrdered axes
    → Overlaid axes area number old new → All P old → ((p : List ℤ) → IsInside area p → P (number p)) → All P new
all_overlaid P axes area number old new old_size size ordered overlaid all each i d h =
    let below : i < count axes = omega (arith, h, size) in
    let p = point_at axes i in
    let inside : IsInside axes p = point-inside axes i below ordered in
    let there : get_or new i (pos 0) ≡ (if is_inside area p then number p else get_or old i (pos 0)) = rw (rank-point axes i below) at (overlaid p inside) in
    let here : P (get_or new i (pos 0)) = elim (inside_cases area p) [
      | inl t ↦ rw (there, t.0) (each p t.1)
      | inr e ↦ rw (there, e.0) (all i (pos 0) (omega (arith, below, old_size)))
    ] in
    subst P (get_or_default new i (pos 0) d h) here

-- the numbers of a box at its points
pub number_fits : (k : FieldType) (area : List Axis) (numbers : Numbers) (p : List ℤ) → AreNumbers k area numbers → IsInside area p → Fits k (number_of numbers (0 + rank_of area p))
number_fits k area (Same n) p are inside = are
number_fits k area (List_of list) p are inside = are.1 (0 + rank_of area p) (pos 0) (omega (arith, are.0, rank_of-lt-count area p inside))

pub number_listed : (k : FieldType) (area : List Axis) (numbers : Numbers) (p : List ℤ) → AreNumbers k area numbers → IsInside area p → number_of numbers (0 + rank_of area p) ≡ get_or (numbers_in area numbers) (rank_of area p) (pos 0)
number_listed k area (Same n) p are inside = sym (get_or-replicate (count area) (rank_of area p) n (pos 0) (rank_of-lt-count area p inside))
number_listed k area (List_of list) p are inside = rw (let e : 0 + rank_of area p ≡ rank_of area p = omega arith in e) refl

-- there are numbers for each point of a box, and for fewer
pub has_numbers : (k : FieldType) (area : List Axis) (numbers : Numbers) → AreNumbers k area numbers → HasNumbers numbers (0 + count area)
has_numbers k area (Same n) are = tt
has_numbers k area (List_of list) are = omega (arith, are.0)

pub has_fewer : (numbers : Numbers) (n m : ℕ) → n ≤ m → HasNumbers numbers m → HasNumbers numbers n
has_fewer (Same n) a b le has = tt
has_fewer (List_of list) a b le has = omega (arith, le, has)
