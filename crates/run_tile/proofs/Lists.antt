-- Runs as values and counts: their cells, and how far they were listed.
use Rattle.std.proofs.Common.{◌≡◌, ℕ, zero, suc, ◌+◌, ◌*◌, ◌<◌, ◌≤◌, ℤ, pos, List, [], ◌∷◌, ◌++◌, length, replicate, get_or, Some, refl, sym, ap, ap₂, ◌∙◌, arith, below_more, length-append, subst, eq-or-lt_of_le, ⊎_elim, ◌⊎◌, inl, inr, Bool, true, false, ◌&&◌, IsTrue, ◌↔◌}
use Rattle.std.proofs.lemmas.List.{length-replicate}
use Rattle.std.proofs.lemmas.List.FromFn.{length-map-range_with_len, get_or-map-range_with_len}
use Rattle.arr_core.specs.declared.cell.FieldType.{FieldType}
use Rattle.arr_core.specs.Runs.{spread, runs_of}
use Rattle.run_tile.specs.Runs.{run_at, first_runs, cells_of, IsRun, IsSpelling, run_count, run_size}
use Rattle.run_tile.specs.Reading.{last_of}
use Rattle.run_tile.specs.Listing.{AreListed, IsPart}
use Rattle.run_tile.specs.declared.listing.Part.{Part}
use Rattle.run_tile.specs.declared.run.Run.{Run}
use Rattle.run_tile.proofs.Spelling.{cells_of-more, not-repeated}

-- how many cells the first runs have with one more
pub count-more : (kind : FieldType) (bytes : List ℕ) (n : ℕ) → length (cells_of (first_runs kind bytes (n + 1))) ≡ length (cells_of (first_runs kind bytes n)) + (run_at kind bytes n).count
count-more kind bytes n =
    let r = run_at kind bytes n in
    omega (arith, ap length (cells_of-more kind bytes n), length-append (cells_of (first_runs kind bytes n)) (replicate r.count r.value), length-replicate r.count r.value)

-- each run has a cell, so that there are no more of them than cells
runs-few : (kind : FieldType) (bytes : List ℕ) (n : ℕ) → ((k : ℕ) → k < n → IsRun kind (run_at kind bytes k)) → n ≤ length (cells_of (first_runs kind bytes n))
runs-few kind bytes zero sound = omega arith
runs-few kind bytes (suc n) sound =
    let before = runs-few kind bytes n (λ k h. sound k (omega arith)) in
    let one = (sound n (omega arith)).0 in
    let same = ap (λ (m : ℕ). length (cells_of (first_runs kind bytes m))) {x = suc n} {y = n + 1} (omega arith) in
    omega (arith, before, one, same, count-more kind bytes n)

pub few-runs : (kind : FieldType) (bytes : List ℕ) (list : List ℤ) → IsSpelling kind bytes list → run_count kind bytes ≤ length list
few-runs kind bytes list s = omega (arith, ap length s.cells_are, runs-few kind bytes (run_count kind bytes) s.runs)

-- values and counts stand for the cells of runs
spread-runs : (values : List ℤ) (counts : List ℕ) (rs : List Run) (d : Run) → length counts ≡ length rs → length rs ≤ length values
    → ((k : ℕ) → k < length rs → get_or values k (pos 0) ≡ (get_or rs k d).value) → ((k : ℕ) → k < length rs → get_or counts k 0 ≡ (get_or rs k d).count) → spread values counts ≡ cells_of rs
unfolding cells_of
spread-runs [] [] [] d same room value count = refl
spread-runs (v ∷ vs) [] [] d same room value count = refl
spread-runs values (c ∷ cs) [] d same room value count = absurd (omega arith)
spread-runs values [] (r ∷ rs) d same room value count = absurd (omega arith)
spread-runs [] (c ∷ cs) (r ∷ rs) d same room value count = absurd (omega arith)
spread-runs (v ∷ vs) (c ∷ cs) (r ∷ rs) d same room value count =
    ap₂ (λ (xs ys : List ℤ). xs ++ ys) (ap₂ (λ (n : ℕ) (z : ℤ). replicate n z) (count 0 (omega arith)) (value 0 (omega arith)))
    (spread-runs vs cs rs d (omega arith) (omega arith) (λ k h. value (suc k) (omega arith)) (λ k h. count (suc k) (omega arith)))

no-cells : cells_of [] ≡ []
unfolding cells_of
no-cells = refl

-- so does a list of runs with as many values as there are cells
runs-spread : (values : List ℤ) (counts : List ℕ) (rs : List Run) (d : Run) → length counts ≡ length rs → length rs ≤ length values
    → ((k : ℕ) → k < length rs → get_or values k (pos 0) ≡ (get_or rs k d).value) → ((k : ℕ) → k < length rs → get_or counts k 0 ≡ (get_or rs k d).count) → length (cells_of rs) ≡ length values → runs_of values counts ≡ cells_of rs
runs-spread values (c ∷ cs) rs d same room value count full = spread-runs values (c ∷ cs) rs d same room value count
runs-spread [] [] rs d same room value count full = spread-runs [] [] rs d same room value count
runs-spread (v ∷ vs) [] [] d same room value count full = absurd (omega (arith, full, ap length no-cells))
runs-spread (v ∷ vs) [] (r ∷ rs) d same room value count full = absurd (omega arith)

length-first : (kind : FieldType) (bytes : List ℕ) (n : ℕ) → length (first_runs kind bytes n) ≡ n
unfolding first_runs
length-first kind bytes n = length-map-range_with_len (run_at kind bytes) 0 n

first-at : (kind : FieldType) (bytes : List ℕ) (n k : ℕ) → k < n → get_or (first_runs kind bytes n) k (run_at kind bytes 0) ≡ run_at kind bytes k
unfolding first_runs
first-at kind bytes n k h = get_or-map-range_with_len (run_at kind bytes) 0 n k k (run_at kind bytes 0) h (omega arith)

-- runs that were listed to the end are the cells that are spelled
pub listed-all : (kind : FieldType) (bytes : List ℕ) (values : List ℤ) (counts : List ℕ) → AreListed kind bytes values counts (run_count kind bytes) → length bytes ≡ run_count kind bytes * run_size kind → length counts ≡ run_count kind bytes → length counts ≤ length values
    → length (cells_of (first_runs kind bytes (run_count kind bytes))) ≡ length values → IsSpelling kind bytes (runs_of values counts) × (length (runs_of values counts) ≡ length values)
listed-all kind bytes values counts was whole same room full =
    let n = run_count kind bytes in
    let d = run_at kind bytes 0 in
    let long = length-first kind bytes n in
    let here = first-at kind bytes n in
    let cells = runs-spread values counts (first_runs kind bytes n) d (omega (arith, same, long)) (omega (arith, same, long, room))
    (λ k h. was.values_are k (omega (arith, h, long)) ∙ ap (λ (r : Run). r.value) (sym (here k (omega (arith, h, long)))))
    (λ k h. was.counts_are k (omega (arith, h, long)) ∙ ap (λ (r : Run). r.count) (sym (here k (omega (arith, h, long))))) full in
    (record { whole = whole; runs = was.runs; maximal = was.maximal; cells_are = cells }, ap length cells ∙ full)

-- what spells cells has as many of them as its runs
pub count-all : (kind : FieldType) (bytes : List ℕ) (list : List ℤ) → IsSpelling kind bytes list → length list ≡ length (cells_of (first_runs kind bytes (run_count kind bytes)))
count-all kind bytes list s = ap length s.cells_are

-- no run is listed at first
pub listed-none : (kind : FieldType) (bytes : List ℕ) (values : List ℤ) (counts : List ℕ) → AreListed kind bytes values counts 0
listed-none kind bytes values counts = record {
  runs = λ k h. absurd (omega arith);
  maximal = λ k h. absurd (omega arith);
  values_are = λ k h. absurd (omega arith);
  counts_are = λ k h. absurd (omega arith);
}

-- one run more is sound and unlike the one before it
pub sound-more : (kind : FieldType) (bytes : List ℕ) (n : ℕ) (run : Run) (values values' : List ℤ) (counts counts' : List ℕ) → AreListed kind bytes values counts n → run ≡ run_at kind bytes n → IsRun kind run → (last_of kind bytes n ≡ Some run.value → ⊥)
    → ((k : ℕ) → k < n + 1 → get_or values' k (pos 0) ≡ (run_at kind bytes k).value) → ((k : ℕ) → k < n + 1 → get_or counts' k 0 ≡ (run_at kind bytes k).count) → AreListed kind bytes values' counts' (n + 1)
sound-more kind bytes n run values values' counts counts' was read sound differs value count = record {
  runs = below_more (λ k. IsRun kind (run_at kind bytes k)) n was.runs (subst (IsRun kind) read sound);
  maximal = λ k h q. ⊎_elim
      (λ (e : k + 1 ≡ n).
      let last = ap (last_of kind bytes) {x = n} {y = suc k} (omega arith) in
      differs (last ∙ ap (λ (z : ℤ). Some z) (q ∙ ap (λ (j : ℕ). (run_at kind bytes j).value) e ∙ ap (λ (r : Run). r.value) (sym read))))
      (λ (l : k + 1 < n). was.maximal k l q)
      (eq-or-lt_of_le (omega arith));
  values_are = value;
  counts_are = count;
}

-- the runs before a place are sound, and so is the one there, which has not the value of the one before it
pub record IsTold (kind : FieldType) (bytes : List ℕ) (n : ℕ) (was sound : Bool) : Type 0 where
  pub yes : IsTrue sound → IsTrue was × IsRun kind (run_at kind bytes n) × (last_of kind bytes n ≡ Some (run_at kind bytes n).value → ⊥)
  pub no : (sound ≡ false) → (was ≡ false) ⊎ (IsRun kind (run_at kind bytes n) × (last_of kind bytes n ≡ Some (run_at kind bytes n).value → ⊥) → ⊥)

-- it is told by two tests
pub told-both : (kind : FieldType) (bytes : List ℕ) (n : ℕ) (was test : Bool) → (IsTrue test ↔ (IsRun kind (run_at kind bytes n) × (last_of kind bytes n ≡ Some (run_at kind bytes n).value → ⊥))) → IsTold kind bytes n was (was && test)
told-both kind bytes n true true h = record { yes = λ t. (refl, (h.0 refl).0, (h.0 refl).1); no = λ f. absurd cc }
told-both kind bytes n true false h = record { yes = λ t. absurd cc; no = λ f. inr (λ both. let t : IsTrue false = h.1 both in cc) }
told-both kind bytes n false test h = record { yes = λ t. absurd cc; no = λ f. inl refl }

-- values and counts with one more behind those that were written
pub record IsPut (kind : FieldType) (bytes : List ℕ) (n : ℕ) (values values' : List ℤ) (counts counts' : List ℕ) : Type 0 where
  pub values_before : (k : ℕ) → k < n → get_or values' k (pos 0) ≡ get_or values k (pos 0)
  pub value : get_or values' n (pos 0) ≡ (run_at kind bytes n).value
  pub counts_before : (k : ℕ) → k < n → get_or counts' k 0 ≡ get_or counts k 0
  pub count : get_or counts' n 0 ≡ (run_at kind bytes n).count

-- one run more
pub part-more : (kind : FieldType) (bytes : List ℕ) (from n : ℕ) (values values' : List ℤ) (counts counts' : List ℕ) (part next : Part) → IsPart kind bytes values counts from n part → n < run_count kind bytes
    → IsTold kind bytes n part.sound next.sound → IsPut kind bytes n values values' counts counts' → next.cells ≡ part.cells + (run_at kind bytes n).count → IsPart kind bytes values' counts' from (n + 1) next
part-more kind bytes from n values values' counts counts' part next was some told put cells = record {
  sound = λ t.
      let yes = told.yes t in
      let listed = was.sound yes.0 in
      sound-more kind bytes n (run_at kind bytes n) values values' counts counts' listed refl yes.1 yes.2
      (below_more _ n (λ k h. put.values_before k h ∙ listed.values_are k h) put.value)
      (below_more _ n (λ k h. put.counts_before k h ∙ listed.counts_are k h) put.count);
  unsound = λ f list spelled. ⊎_elim
      (λ e. was.unsound e list spelled)
      (λ refused. refused (spelled.runs n some, λ same. not-repeated kind bytes list n spelled some same))
      (told.no f);
  cells_are = omega (arith, was.cells_are, cells, count-more kind bytes n);
}

-- no run more
pub part-none : (kind : FieldType) (bytes : List ℕ) (values : List ℤ) (counts : List ℕ) (n : ℕ) → AreListed kind bytes values counts n → IsPart kind bytes values counts n n (record { sound = true; cells = 0 })
part-none kind bytes values counts n listed = record { sound = λ _. listed; unsound = λ f list spelled. cc; cells_are = omega arith }
