-- The cell at a rank is the value of the run that it stands in.
use Rattle.std.proofs.Common.{◌≡◌, ℕ, ◌+◌, ◌-◌, ◌*◌, ◌<◌, ◌≤◌, ℤ, pos, List, ◌++◌, length, map, take, drop, replicate, get_or, sym, ap, ◌∙◌, arith, length-append, length-drop}
use Rattle.std.proofs.lemmas.List.{length-map, length-replicate, take-append-drop, ext_get_or, get_or-map, get_or_append_left, get_or-append_right, get_or-replicate, get_or-take, get_or-drop, length-take-le}
use Rattle.std.proofs.lemmas.List.FromFn.{length-map-range_with_len, take-map-range_with_len, get_or-map-range_with_len}
use Rattle.std.proofs.lemmas.Grind.{flat_map-append}
use Rattle.byteorder.specs.Endian.{little_from, little_number}
use Rattle.byteorder.specs.Numbers.{little_from-take}
use Rattle.arr_core.specs.declared.cell.FieldType.{FieldType}
use Rattle.run_tile.specs.Types.{width_of, value_of}
use Rattle.run_tile.specs.Runs.{run_at, run_count, first_runs, cells_of}
use Rattle.run_tile.specs.Raw.{raw_at, raw_cells, raw_count}
use Rattle.run_tile.specs.Picking.{picked, IsStart}
use Rattle.run_tile.specs.declared.picking.Start.{Start}
use Rattle.run_tile.proofs.Spelling.{cells_of-more, cells_of-none}

-- no run, and one run more
pub start-none : (kind : FieldType) (bytes : List ℕ) → IsStart kind bytes (record { runs = 0; cells = 0 })
start-none kind bytes = record { within = omega arith; before = sym (ap length (cells_of-none kind bytes)) }

pub start-more : (kind : FieldType) (bytes : List ℕ) (at next : Start) → IsStart kind bytes at → at.runs < run_count kind bytes → next.runs ≡ at.runs + 1 → next.cells ≡ at.cells + (run_at kind bytes at.runs).count → IsStart kind bytes next
start-more kind bytes at next was some runs cells =
    let r = run_at kind bytes at.runs in
    record {
      within = omega (arith, runs);
      before = omega (arith, was.before, cells, ap (λ (n : ℕ). length (cells_of (first_runs kind bytes n))) runs, ap length (cells_of-more kind bytes at.runs), length-append (cells_of (first_runs kind bytes at.runs)) (replicate r.count r.value), length-replicate r.count r.value);
    }

-- a rank in a run is one of the cells, which is the run's value
pub in-run : (kind : FieldType) (bytes : List ℕ) (at : Start) (rank : ℕ) → IsStart kind bytes at → at.runs < run_count kind bytes → at.cells ≤ rank → rank < at.cells + (run_at kind bytes at.runs).count
    → (rank < length (cells_of (first_runs kind bytes (run_count kind bytes)))) × (get_or (cells_of (first_runs kind bytes (run_count kind bytes))) rank (pos 0) ≡ (run_at kind bytes at.runs).value)
unfolding first_runs cells_of
in-run kind bytes at rank was some from inside =
    let i = at.runs in
    let r = run_at kind bytes i in
    let all = first_runs kind bytes (run_count kind bytes) in
    let before = cells_of (first_runs kind bytes i) in
    let own = replicate r.count r.value in
    let behind = cells_of (drop (i + 1) all) in
    let front : take (i + 1) all ≡ first_runs kind bytes (i + 1) = take-map-range_with_len (run_at kind bytes) 0 (run_count kind bytes) (i + 1) (omega arith) in
    let split : cells_of all ≡ (before ++ own) ++ behind =
    ap cells_of (sym (take-append-drop (i + 1) all)) ∙ flat_map-append _ (take (i + 1) all) (drop (i + 1) all) ∙ ap (λ rs. cells_of rs ++ behind) front ∙ ap (λ (xs : List ℤ). xs ++ behind) (cells_of-more kind bytes i) in
    let long : length before ≡ at.cells = sym was.before in
    let own-long = length-replicate r.count r.value in
    let most : rank < length (before ++ own) = omega (arith, length-append before own, long, own-long, inside) in (
      omega (arith, most, ap length split, length-append (before ++ own) behind),
      ap (λ (xs : List ℤ). get_or xs rank (pos 0)) split ∙ get_or_append_left (before ++ own) behind (pos 0) rank most
          ∙ get_or-append_right before own at.cells rank (pos 0) long from ∙ get_or-replicate r.count (rank - at.cells) r.value (pos 0) (omega (arith, from, inside)),
    )

-- where the runs end, so do the cells
pub at-end : (kind : FieldType) (bytes : List ℕ) (at : Start) → IsStart kind bytes at → run_count kind bytes ≤ at.runs → length (cells_of (first_runs kind bytes (run_count kind bytes))) ≡ at.cells
at-end kind bytes at was past =
    let all : run_count kind bytes ≡ at.runs = omega (arith, was.within, past) in
    ap (λ (n : ℕ). length (cells_of (first_runs kind bytes n))) all ∙ sym was.before

-- each cell that was picked is the one at its rank
pub picked-all : (cells : List ℤ) (ranks : List ℕ) (own : List ℤ) → length own ≡ length ranks → ((k : ℕ) → k < length ranks → get_or own k (pos 0) ≡ get_or cells (get_or ranks k 0) (pos 0)) → own ≡ picked cells ranks
picked-all cells ranks own size each =
    let at = λ (r : ℕ). get_or cells r (pos 0) in
    ext_get_or (pos 0) own (map at ranks) (size ∙ sym (length-map ranks at)) (λ k h. each k (omega (arith, h, size)) ∙ sym (get_or-map at ranks k 0 (pos 0) (omega (arith, h, size))))

-- the value at a rank of the raw cells
pub raw-at : (kind : FieldType) (bytes : List ℕ) (rank : ℕ) → rank < raw_count kind bytes → get_or (raw_cells kind bytes) rank (pos 0) ≡ raw_at kind bytes rank
unfolding raw_cells
raw-at kind bytes rank h = get_or-map-range_with_len (raw_at kind bytes) 0 (raw_count kind bytes) rank rank (pos 0) h (omega arith)

-- a number is read from its own bytes alone
same-number : (n : ℕ) (xs ys : List ℕ) → n ≤ length xs → n ≤ length ys → ((i : ℕ) → i < n → get_or xs i 0 ≡ get_or ys i 0) → little_number n xs ≡ little_number n ys
same-number n xs ys hx hy each =
    let lx = length-take-le n xs hx in
    let ly = length-take-le n ys hy in
    let front : take n xs ≡ take n ys =
    ext_get_or 0 (take n xs) (take n ys) (lx ∙ sym ly) (λ i h.
    let lt : i < n = omega (arith, h, lx) in
    get_or-take n xs i 0 lt ∙ each i lt ∙ sym (get_or-take n ys i 0 lt)) in
    sym (little_from-take 0 n n xs (omega arith)) ∙ ap (little_from 0 n) front ∙ little_from-take 0 n n ys (omega arith)

-- and so is a value
pub raw-same : (kind : FieldType) (xs ys : List ℕ) (i k : ℕ) → i * width_of kind + width_of kind ≤ length xs → k * width_of kind + width_of kind ≤ length ys
    → ((b : ℕ) → b < width_of kind → get_or xs (i * width_of kind + b) 0 ≡ get_or ys (k * width_of kind + b) 0) → raw_at kind xs i ≡ raw_at kind ys k
unfolding raw_at
raw-same kind xs ys i k hx hy each =
    ap (value_of kind)
    (same-number (width_of kind) (drop (i * width_of kind) xs) (drop (k * width_of kind) ys) (omega (arith, hx, length-drop (i * width_of kind) xs)) (omega (arith, hy, length-drop (k * width_of kind) ys))
    (λ b lt. get_or-drop (i * width_of kind) xs b 0 ∙ each b lt ∙ sym (get_or-drop (k * width_of kind) ys b 0)))

-- how many values bytes read as
pub length-raw : (kind : FieldType) (bytes : List ℕ) → length (raw_cells kind bytes) ≡ raw_count kind bytes
unfolding raw_cells
length-raw kind bytes = length-map-range_with_len (raw_at kind bytes) 0 (raw_count kind bytes)
