-- Bytes with one run more.
use Rattle.std.proofs.Common.{◌≡◌, ◌≢◌, ℕ, zero, suc, ◌+◌, ◌*◌, ◌/◌, ◌<◌, ◌≤◌, ℤ, pos, List, [], ◌∷◌, ◌++◌, length, take, drop, replicate, get_or, refl, sym, ap, ap₂, ◌∙◌, mul-le-mul_right, arith, length-append, length-drop, mul-div_cancel, take-add, get_or-drop, zero-mul, Some, None}
use Rattle.std.proofs.lemmas.List.{drop-append-le, drop_all, drop-drop, take-append-drop, ext_get_or, length-take-le, length-replicate, get_or-take, get_or-replicate}
use Rattle.std.proofs.lemmas.Bool.Decides.{Decides-int_eq}
use Rattle.std.proofs.Math.Seq.{drop-append_seam}
use Rattle.byteorder.specs.Numbers.{little_from-append}
use Rattle.arr_core.specs.declared.cell.FieldType.{FieldType}
use Rattle.run_tile.specs.Types.{width_of}
use Rattle.run_tile.specs.Runs.{run_size, run_of, run_at, run_count, runs_in, IsRun, IsSpelling}
use Rattle.run_tile.specs.Reading.{AreRead}
use Rattle.run_tile.specs.Bytes.{run_bytes}
use Rattle.run_tile.specs.declared.run.Run.{Run}
use Rattle.run_tile.specs.declared.reading.Progress.{Progress}
use Rattle.run_tile.proofs.Progress.{read-none, read-more, read-all}
use Rattle.run_tile.proofs.Values.{length-run_bytes, run-back}

-- a run reads only its own bytes
run_at-append : (kind : FieldType) (xs ys : List ℕ) (k : ℕ) → k * run_size kind + run_size kind ≤ length xs → run_at kind xs k ≡ run_at kind (xs ++ ys) k
unfolding run_at
run_at-append kind xs ys k h =
    let here = drop (k * run_size kind) xs in
    let long = length-drop (k * run_size kind) xs in
    rw (drop-append-le (k * run_size kind) xs ys (omega arith), little_from-append 2 here ys (omega arith), drop-append-le 2 here ys (omega arith), little_from-append (width_of kind) (drop 2 here) ys (omega (arith, length-drop 2 here)))

-- the added run
run_at-pushed : (kind : FieldType) (xs : List ℕ) (r : Run) (n : ℕ) → length xs ≡ n * run_size kind → IsRun kind r → r ≡ run_at kind (xs ++ run_bytes kind r) n
unfolding run_at
run_at-pushed kind xs r n e h =
    sym (ap (λ (k : ℕ). run_of kind (drop k (xs ++ run_bytes kind r))) (sym e) ∙ ap (run_of kind) (drop-append_seam xs (run_bytes kind r)) ∙ run-back kind r h)

-- equal cells from a place on
equal-cells : (cells : List ℤ) (at n : ℕ) (v : ℤ) → at + n ≤ length cells → ((k : ℕ) → at ≤ k → k < at + n → get_or cells k (pos 0) ≡ v) → take n (drop at cells) ≡ replicate n v
equal-cells cells at n v h e =
    let long = length-take-le n (drop at cells) (omega (arith, length-drop at cells)) in
    ext_get_or (pos 0) _ _ (long ∙ sym (length-replicate n v)) (λ k l. get_or-take n (drop at cells) k (pos 0) (omega arith) ∙ get_or-drop at cells k (pos 0) ∙ e (at + k) (omega arith) (omega arith) ∙ sym (get_or-replicate n k v (pos 0) (omega arith)))

-- a run in front of cells that begin with another value
run-front : (n : ℕ) (v : ℤ) (rest : List ℤ) → 1 ≤ n → (0 < length rest → get_or rest 0 (pos 0) ≢ v) → runs_in (replicate n v ++ rest) ≡ 1 + runs_in rest
run-front zero v rest h other = absurd (omega arith)
run-front (suc zero) v [] h other = refl
run-front (suc zero) v (y ∷ ys) h other = grind (arith, Decides-int_eq v y, other (omega arith))
run-front (suc (suc n)) v rest h other = grind (arith, run-front (suc n) v rest (omega arith) other, Decides-int_eq v v)

-- cells have some runs, and no more than there are cells
pub runs-bounds : (cells : List ℤ) → 1 ≤ length cells → (1 ≤ runs_in cells) × (runs_in cells ≤ length cells)
runs-bounds [] h = absurd (omega arith)
runs-bounds (x ∷ []) h = (omega arith, omega arith)
runs-bounds (x ∷ y ∷ ys) h = let rest = runs-bounds (y ∷ ys) (omega arith) in (omega arith, grind arith)

-- the bytes read as the cells before a place, where the last run ends
pub record IsWritten (kind : FieldType) (cells : List ℤ) (bytes : List ℕ) (at : ℕ) : Type 0 where
  pub progress : Progress
  pub reached : progress.cells ≡ at
  pub read : AreRead kind bytes cells progress
  pub whole : length bytes ≡ progress.runs * run_size kind
  pub counted : progress.runs + runs_in (drop at cells) ≡ runs_in cells
  pub differs : at < length cells → progress.last ≢ Some (get_or cells at (pos 0))

pub written-none : (kind : FieldType) (cells : List ℤ) → IsWritten kind cells [] 0
written-none kind cells =
    record { progress = record { runs = 0; cells = 0; last = None }; reached = refl; read = read-none kind [] cells; whole = sym (zero-mul (run_size kind)); counted = omega arith; differs = λ l e. cc }

pub written-more : (kind : FieldType) (cells : List ℤ) (bytes : List ℕ) (at end : ℕ) (r : Run) → IsWritten kind cells bytes at → IsRun kind r → r.value ≡ get_or cells at (pos 0) → at + r.count ≡ end → end ≤ length cells → ((k : ℕ) → at ≤ k → k < end → get_or cells k (pos 0) ≡ get_or cells at (pos 0)) → (end < length cells → get_or cells end (pos 0) ≢ get_or cells at (pos 0)) → IsWritten kind cells (bytes ++ run_bytes kind r) end
written-more kind cells bytes at end r w run value size within equal longest =
    let next : Progress = record { runs = w.progress.runs + 1; cells = end; last = Some r.value } in
    let here = equal-cells cells at r.count r.value (omega arith) (λ k l m. equal k l (omega arith) ∙ sym value) in
    let split = sym (take-append-drop r.count (drop at cells)) ∙ ap₂ (λ xs ys. xs ++ ys) here (drop-drop r.count at cells ∙ ap (λ k. drop k cells) size) in
    let first : get_or (drop end cells) 0 (pos 0) ≡ get_or cells end (pos 0) = get_or-drop end cells 0 (pos 0) ∙ ap (λ k. get_or cells k (pos 0)) (omega arith) in
    let front = run-front r.count r.value (drop end cells) run.0 (λ l q. longest (omega (arith, length-drop end cells)) (sym first ∙ q ∙ value)) in
    let same : (k : ℕ) → k < w.progress.runs → run_at kind bytes k ≡ run_at kind (bytes ++ run_bytes kind r) k =
    λ k l. run_at-append kind bytes (run_bytes kind r) k (let step : (k + 1) * run_size kind ≤ w.progress.runs * run_size kind = mul-le-mul_right (run_size kind) (omega arith) in omega (arith, w.whole)) in
    record {
      progress = next;
      reached = refl;
      read = read-more kind bytes _ cells cells w.progress next r w.read same (run_at-pushed kind bytes r w.progress.runs w.whole run) run (λ q. w.differs (omega arith) (q ∙ ap (λ z. Some z) value)) refl (omega arith) refl (omega arith) (rw w.reached (take-add at r.count cells ∙ ap (λ xs. take at cells ++ xs) here));
      whole = omega (arith, w.whole, length-append bytes (run_bytes kind r), length-run_bytes kind r);
      counted = omega (arith, w.counted, front, ap runs_in split);
      differs = λ l e. longest l (let same : get_or cells end (pos 0) ≡ r.value = cc in same ∙ value);
    }

-- at the end the bytes spell the cells, in as many runs as these have
pub written-all : (kind : FieldType) (cells : List ℤ) (bytes : List ℕ) (at : ℕ) → IsWritten kind cells bytes at → length cells ≤ at → IsSpelling kind bytes cells × (length bytes ≡ runs_in cells * run_size kind)
written-all kind cells bytes at w h =
    let count : run_count kind bytes ≡ w.progress.runs = ap (λ k. k / run_size kind) w.whole ∙ mul-div_cancel w.progress.runs (omega arith) in
    let none = ap runs_in (drop_all at cells h) in
    let same : w.progress.runs ≡ runs_in cells = omega (arith, w.counted) in
    (read-all kind bytes cells w.progress w.read (w.whole ∙ ap (λ k. k * run_size kind) (sym count)) (sym count) (omega (arith, w.reached)), w.whole ∙ ap (λ k. k * run_size kind) same)

-- what was written is no longer than all runs
pub written-within : (kind : FieldType) (cells : List ℤ) (bytes : List ℕ) (at : ℕ) → IsWritten kind cells bytes at → length bytes ≤ runs_in cells * run_size kind
written-within kind cells bytes at w =
    let few : w.progress.runs ≤ runs_in cells = omega (arith, w.counted) in
    let long = mul-le-mul_right (run_size kind) few in
    omega (arith, long, w.whole)
