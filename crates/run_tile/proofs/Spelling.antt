-- The runs that bytes read as, one after another.
use Rattle.std.proofs.Common.{◌≡◌, ℕ, zero, suc, ◌+◌, ◌<◌, ◌≤◌, ℤ, List, [], ◌∷◌, ◌++◌, length, take, drop, replicate, refl, sym, ap, ◌∙◌, arith, length-append, append-nil, Some}
use Rattle.std.proofs.lemmas.List.{length-replicate, take-append-drop}
use Rattle.std.proofs.lemmas.Grind.{flat_map-append}
use Rattle.std.proofs.lemmas.List.FromFn.{map-range_with_len_more, take-map-range_with_len}
use Rattle.arr_core.specs.declared.cell.FieldType.{FieldType}
use Rattle.run_tile.specs.Runs.{run_at, run_count, first_runs, cells_of, IsSpelling}
use Rattle.run_tile.specs.Reading.{last_of}

-- the cells of one run more
pub cells_of-more : (kind : FieldType) (bytes : List ℕ) (k : ℕ) → cells_of (first_runs kind bytes (k + 1)) ≡ cells_of (first_runs kind bytes k) ++ replicate (run_at kind bytes k).count (run_at kind bytes k).value
unfolding first_runs cells_of
cells_of-more kind bytes k =
    ap cells_of (map-range_with_len_more (run_at kind bytes) 0 k k (omega arith)) ∙ flat_map-append _ (first_runs kind bytes k) (run_at kind bytes k ∷ []) ∙ ap (λ xs. cells_of (first_runs kind bytes k) ++ xs) (append-nil _)

pub cells_of-none : (kind : FieldType) (bytes : List ℕ) → cells_of (first_runs kind bytes 0) ≡ []
unfolding first_runs cells_of
cells_of-none kind bytes = refl

-- the cells of a spelling are no fewer than those of its first runs
pub not-longer : (kind : FieldType) (bytes : List ℕ) (cells : List ℤ) (i : ℕ) → IsSpelling kind bytes cells → i < run_count kind bytes → length (cells_of (first_runs kind bytes i)) + (run_at kind bytes i).count ≤ length cells
unfolding first_runs cells_of
not-longer kind bytes cells i s h =
    let all = first_runs kind bytes (run_count kind bytes) in
    let front = take-map-range_with_len (run_at kind bytes) 0 (run_count kind bytes) (i + 1) (omega arith) in
    let split = ap cells_of (sym (take-append-drop (i + 1) all)) ∙ flat_map-append _ (take (i + 1) all) (drop (i + 1) all) in
    omega (arith, ap length s.cells_are, ap length split, length-append (cells_of (take (i + 1) all)) (cells_of (drop (i + 1) all)), ap (λ rs. length (cells_of rs)) front, ap length (cells_of-more kind bytes i), length-append (cells_of (first_runs kind bytes i)) (replicate (run_at kind bytes i).count (run_at kind bytes i).value), length-replicate (run_at kind bytes i).count (run_at kind bytes i).value)

-- in a spelling a run never has the value of the one before it
pub not-repeated : (kind : FieldType) (bytes : List ℕ) (cells : List ℤ) (i : ℕ) → IsSpelling kind bytes cells → i < run_count kind bytes → last_of kind bytes i ≡ Some (run_at kind bytes i).value → ⊥
not-repeated kind bytes cells zero s h l = cc
not-repeated kind bytes cells (suc k) s h l =
    let next : run_at kind bytes (suc k) ≡ run_at kind bytes (k + 1) = ap (run_at kind bytes) (omega arith) in
    s.maximal k (omega arith) (let same : (run_at kind bytes k).value ≡ (run_at kind bytes (k + 1)).value = cc in same)
