-- A reading that has begun, one that has come one run further, and one that has come to the end.
use Rattle.std.proofs.Common.{◌≡◌, ℤ, List, length, ℕ, ◌+◌, ◌*◌, ◌<◌, ◌≤◌, ◌++◌, Some, None, take, take_all, replicate, refl, sym, ap, ◌∙◌, arith, below_more, subst, eq-or-lt_of_le, ⊎_elim, suc}
use Rattle.std.proofs.lemmas.List.{length-take-le}
use Rattle.std.proofs.lemmas.List.FromFn.{fill_by_all, length-map-range_with_len, get_or-map-range_with_len}
use Rattle.arr_core.specs.declared.cell.FieldType.{FieldType}
use Rattle.run_tile.specs.Runs.{run_at, first_runs, cells_of, IsRun, IsSpelling, run_count, run_size}
use Rattle.run_tile.specs.Reading.{AreRead, last_of}
use Rattle.run_tile.specs.declared.run.Run.{Run}
use Rattle.run_tile.specs.declared.reading.Progress.{Progress}
use Rattle.run_tile.proofs.Spelling.{cells_of-none, cells_of-more}

pub read-none : (kind : FieldType) (bytes : List ℕ) (cells : List ℤ) → AreRead kind bytes cells (record { runs = 0; cells = 0; last = None })
read-none kind bytes cells = record {
  within = omega arith;
  cells_are = sym (cells_of-none kind bytes);
  runs = λ k h. absurd (omega arith);
  maximal = λ k h. absurd (omega arith);
  last_is = refl;
}

same-first : (kind : FieldType) (xs ys : List ℕ) (n : ℕ) → ((k : ℕ) → k < n → run_at kind xs k ≡ run_at kind ys k) → first_runs kind xs n ≡ first_runs kind ys n
unfolding first_runs
same-first kind xs ys n h =
    fill_by_all (run_at kind ys) (first_runs kind xs n) n (run_at kind xs 0) (length-map-range_with_len (run_at kind xs) 0 n) (λ k l. get_or-map-range_with_len (run_at kind xs) 0 n k k (run_at kind xs 0) l (omega arith) ∙ h k l)

-- one run more, where the bytes may be others with the same runs before it
pub read-more : (kind : FieldType) (xs ys : List ℕ) (old new : List ℤ) (at next : Progress) (run : Run) → AreRead kind xs old at → ((k : ℕ) → k < at.runs → run_at kind xs k ≡ run_at kind ys k) → run ≡ run_at kind ys at.runs → IsRun kind run → (at.last ≡ Some run.value → ⊥) → next.runs ≡ at.runs + 1 → next.cells ≡ at.cells + run.count → next.last ≡ Some run.value → at.cells + run.count ≤ length new → take (at.cells + run.count) new ≡ take at.cells old ++ replicate run.count run.value → AreRead kind ys new next
read-more kind xs ys old new at next run was same read sound differs er ec el within written =
    let i = at.runs in
    let value = λ (r : Run). r.value in
    record {
      within = omega arith;
      cells_are = rw (ec, er, cells_of-more kind ys i, ← read, ← same-first kind xs ys i same, ← was.cells_are) written;
      runs = λ k h. below_more (λ k. IsRun kind (run_at kind ys k)) i (λ k l. subst (IsRun kind) (same k l) (was.runs k l)) (subst (IsRun kind) read sound) k (omega arith);
      maximal = λ k h q. ⊎_elim
          (λ (e : k + 1 ≡ i).
          let last = was.last_is ∙ ap (last_of kind xs) {y = suc k} (omega arith) in
          differs (last ∙ ap (λ (z : ℤ). Some z) (ap value (same k (omega arith)) ∙ q ∙ ap (λ (j : ℕ). (run_at kind ys j).value) e ∙ sym (ap value read))))
          (λ (l : k + 1 < i). was.maximal k l (ap value (same k (omega arith)) ∙ q ∙ sym (ap value (same (k + 1) l))))
          (eq-or-lt_of_le (omega arith));
      last_is = el ∙ ap (λ (r : Run). Some r.value) read ∙ ap (last_of kind ys) {x = suc i} (omega arith);
    }

-- what was read to the end with no cell left is spelled
pub read-all : (kind : FieldType) (bytes : List ℕ) (cells : List ℤ) (at : Progress) → AreRead kind bytes cells at → length bytes ≡ run_count kind bytes * run_size kind → at.runs ≡ run_count kind bytes → length cells ≤ at.cells → IsSpelling kind bytes cells
read-all kind bytes cells at was whole all full = record {
  whole = whole;
  runs = λ k h. was.runs k (omega arith);
  maximal = λ k h. was.maximal k (omega arith);
  cells_are = sym (take_all at.cells cells full) ∙ was.cells_are ∙ ap (λ (n : ℕ). cells_of (first_runs kind bytes n)) all;
}

-- what spells cells has as many of them as were read to the end
pub read-count : (kind : FieldType) (bytes : List ℕ) (cells list : List ℤ) (at : Progress) → AreRead kind bytes cells at → IsSpelling kind bytes list → at.runs ≡ run_count kind bytes → length list ≡ at.cells
read-count kind bytes cells list at was spelled all =
    ap length (spelled.cells_are ∙ ap (λ (n : ℕ). cells_of (first_runs kind bytes n)) (sym all) ∙ sym was.cells_are) ∙ length-take-le at.cells cells was.within
