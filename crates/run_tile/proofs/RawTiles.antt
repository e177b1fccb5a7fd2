-- Cells one after the other: what they read as, and how many runs they make.
use Rattle.std.proofs.Common.{◌≡◌, ◌↔◌, ℕ, ◌+◌, ◌*◌, ◌/◌, ◌<◌, ◌≤◌, ℤ, pos, List, [], ◌∷◌, ◌++◌, length, take, drop, get_or, sym, ap, ap₂, ◌∙◌, arith, mul-le-mul_right, append_assoc, length-append, length-drop, mul-div_cancel, below_more, subst, Bool, true, false, ◌&&◌, IsTrue, refl, ◌⊎◌, cond, All, lt-ltb, inl, inr}
use Rattle.std.specs.Prelude.{if◌then◌else◌}
use Rattle.std.specs.Int.{w64}
use Rattle.std.specs.Ordering.{int_eq}
use Rattle.std.proofs.lemmas.Bool.{cases_lt}
use Rattle.std.proofs.Math.Nat.{div-lt_iff_lt-mul, one-le-mul}
use Rattle.std.proofs.lemmas.List.{drop-append-le, drop_more, drop_all}
use Rattle.std.proofs.lemmas.List.FromFn.{fill_by_all, get_or-map-range_with_len, length-map-range_with_len}
use Rattle.std.proofs.lemmas.Option.{slice_get-get_or}
use Rattle.std.proofs.Math.Seq.{drop-append_seam, take-append_seam}
use Rattle.byteorder.specs.Endian.{little_bytes, little_number, low_bytes}
use Rattle.byteorder.specs.Numbers.{little_from-append, length-bytes_low_first}
use Rattle.arr_core.specs.declared.cell.FieldType.{FieldType}
use Rattle.arr_core.specs.declared.cell.FieldType.TheVariants as variant
use Rattle.arr_core.specs.Cells.{Fits}
use Rattle.file_bytes.specs.declared.form.Form.TheVariants.{Runs, Raw}
use Rattle.run_tile.specs.Types.{width_of, value_of}
use Rattle.run_tile.specs.Runs.{runs_in}
use Rattle.run_tile.specs.Raw.{raw_at, raw_cells, raw_count, raw_size, runs_size, tile_size, form_of, runs_from, IsRawSpelling, IsRawWritten, IsTile}
use Rattle.run_tile.proofs.Pushes.{runs-bounds}
use Rattle.run_tile.proofs.Values.{value-read}

-- two tests that hold, and two of which one fails
pub both-true : (a b : Bool) → IsTrue (a && b) → IsTrue a × IsTrue b
both-true true true t = (refl, refl)
both-true true false t = absurd cc
both-true false b t = absurd cc

pub one-false : (a b : Bool) → (a && b) ≡ false → (a ≡ false) ⊎ (b ≡ false)
one-false true b f = inr f
one-false false b f = inl refl

pub some-width : (kind : FieldType) → 1 ≤ width_of kind
some-width kind = grind arith

pub most-width : (kind : FieldType) → width_of kind ≤ 8
most-width kind = grind arith

-- a value reads only its own bytes
raw_at-append : (kind : FieldType) (xs ys : List ℕ) (k : ℕ) → k * width_of kind + width_of kind ≤ length xs → raw_at kind xs k ≡ raw_at kind (xs ++ ys) k
unfolding raw_at
raw_at-append kind xs ys k h =
    let here = drop (k * width_of kind) xs in
    let long = length-drop (k * width_of kind) xs in
    rw (drop-append-le (k * width_of kind) xs ys (omega arith), little_from-append (width_of kind) here ys (omega arith))

-- the added value
raw_at-pushed : (kind : FieldType) (xs : List ℕ) (z : ℤ) (n : ℕ) → length xs ≡ n * width_of kind → Fits kind z → z ≡ raw_at kind (xs ++ little_bytes (width_of kind) (low_bytes w64 (width_of kind) z)) n
unfolding raw_at
raw_at-pushed kind xs z n e h =
    let value = little_bytes (width_of kind) (low_bytes w64 (width_of kind) z) in
    let read = λ (l : List ℕ). value_of kind (little_number (width_of kind) l) in
    sym (ap (λ (k : ℕ). read (drop k (xs ++ value))) (sym e) ∙ ap read (drop-append_seam xs value) ∙ value-read kind z h)

-- as many values as there are cells, each a cell: the values that the bytes read as
pub raw-cells : (kind : FieldType) (bytes : List ℕ) (cells : List ℤ) → length bytes ≡ raw_size kind cells → ((k : ℕ) → k < length cells → get_or cells k (pos 0) ≡ raw_at kind bytes k) → cells ≡ raw_cells kind bytes
unfolding raw_cells
raw-cells kind bytes cells whole each =
    let some = some-width kind in
    let count : raw_count kind bytes ≡ length cells = ap (λ (n : ℕ). n / width_of kind) whole ∙ mul-div_cancel (length cells) (omega arith) in
    fill_by_all (raw_at kind bytes) cells (raw_count kind bytes) (pos 0) (sym count) (λ k l. each k (omega arith))

pub written-none : (kind : FieldType) (cells : List ℤ) → IsRawWritten kind cells [] 0
written-none kind cells = record { whole = omega arith; each = λ k h. absurd (omega arith) }

pub written-more : (kind : FieldType) (cells : List ℤ) (bytes : List ℕ) (at : ℕ) (z : ℤ) → IsRawWritten kind cells bytes at → Fits kind z → z ≡ get_or cells at (pos 0) → IsRawWritten kind cells (bytes ++ little_bytes (width_of kind) (low_bytes w64 (width_of kind) z)) (at + 1)
written-more kind cells bytes at z w fit value =
    let more = little_bytes (width_of kind) (low_bytes w64 (width_of kind) z) in
    let long = length-bytes_low_first 0 (width_of kind) (low_bytes w64 (width_of kind) z) in
    record {
      whole = grind (arith, w.whole, length-append bytes more, long);
      each = below_more (λ (k : ℕ). get_or cells k (pos 0) ≡ raw_at kind (bytes ++ more) k) at
          (λ k l. w.each k l ∙ raw_at-append kind bytes more k (grind (arith, w.whole)))
          (sym value ∙ raw_at-pushed kind bytes z at w.whole fit);
    }

-- the cells of a spelling are the values that stand at their places
raw-there : (kind : FieldType) (bytes : List ℕ) (list : List ℤ) (k : ℕ) → IsRawSpelling kind bytes list → k < length list → get_or list k (pos 0) ≡ raw_at kind bytes k
unfolding raw_cells
raw-there kind bytes list k s h =
    let some = some-width kind in
    let count : raw_count kind bytes ≡ length list = ap (λ (n : ℕ). n / width_of kind) s.whole ∙ mul-div_cancel (length list) (omega arith) in
    ap (λ (l : List ℤ). get_or l k (pos 0)) s.cells_are ∙ get_or-map-range_with_len (raw_at kind bytes) 0 (raw_count kind bytes) k k (pos 0) (omega arith) (omega arith)

-- a value that is not of the type stands in no spelling
pub unfit : (kind : FieldType) (bytes : List ℕ) (list : List ℤ) (k : ℕ) → IsRawSpelling kind bytes list → k < length list → (Fits kind (raw_at kind bytes k) → ⊥) → ⊥
unfit kind bytes list k s h refused = refused (subst (Fits kind) (raw-there kind bytes list k s h) (s.fit k (pos 0) h))

-- which form cells have, and how many bytes
pub raw-form : (kind : FieldType) (cells : List ℤ) → raw_size kind cells < runs_size kind cells → (Raw ≡ form_of kind cells) × (tile_size kind cells ≡ raw_size kind cells)
raw-form kind cells h = (ap (λ (b : Bool). if b then Raw else Runs) (sym (lt-ltb (raw_size kind cells) (runs_size kind cells) h)), omega arith)

-- a tile that is written one after the other
pub raw-tile : (kind : FieldType) (cells : List ℤ) (bytes : List ℕ) → All (Fits kind) cells → length bytes ≡ raw_size kind cells → cells ≡ raw_cells kind bytes → raw_size kind cells < runs_size kind cells → IsTile kind cells Raw bytes
raw-tile kind cells bytes fit whole read short =
    let form = raw-form kind cells short in
    record {
      spelled = record { whole = whole; fit = fit; shorter = rw whole short; cells_are = read };
      shorter = form.0;
      size = whole ∙ sym form.1;
    }

-- a tile has some bytes, and no more than its cells take one after the other
pub tile-bounds : (kind : FieldType) (cells : List ℤ) → 1 ≤ length cells → length cells ≤ 4096 → (1 ≤ tile_size kind cells) × (tile_size kind cells ≤ 32768)
tile-bounds kind cells some few =
    let runs = (runs-bounds cells some).0 in
    let raw : (1 ≤ raw_size kind cells) × (raw_size kind cells ≤ 32768) = widths kind in
    let all : 1 ≤ runs_size kind cells = one-le-mul runs (omega arith) in
    (omega (arith, raw.0, all), omega (arith, raw.1))
  where
    widths : (k : FieldType) → (1 ≤ length cells * width_of k) × (length cells * width_of k ≤ 32768)
    widths variant.Bool = (omega arith, omega arith)
    widths variant.U8 = (omega arith, omega arith)
    widths variant.I16 = (omega arith, omega arith)
    widths variant.I32 = (omega arith, omega arith)
    widths variant.I64 = (omega arith, omega arith)

-- the runs of cells from one place on, by those from the next
pub runs-step : (cells : List ℤ) (q p : ℕ) → q + 1 ≡ p → p < length cells → runs_in (drop q cells) ≡ cond (int_eq (get_or cells q (pos 0)) (get_or cells p (pos 0))) 0 1 + runs_in (drop p cells)
runs-step cells q p e h =
    let x = get_or cells q (pos 0) in
    let y = get_or cells p (pos 0) in
    let one : drop q cells ≡ x ∷ drop p cells = drop_more cells q (pos 0) (omega arith) ∙ ap (λ (k : ℕ). x ∷ drop k cells) e in
    let two : drop p cells ≡ y ∷ drop (p + 1) cells = drop_more cells p (pos 0) h in
    ap runs_in (one ∙ ap (λ (l : List ℤ). x ∷ l) two) ∙ ap (λ (l : List ℤ). cond (int_eq x y) 0 1 + runs_in l) (sym two)

-- the last cell is a run
pub last-run : (cells : List ℤ) (q : ℕ) → q + 1 ≡ length cells → runs_in (drop q cells) ≡ 1
last-run cells q e =
    ap runs_in (drop_more cells q (pos 0) (omega arith) ∙ ap (λ (l : List ℤ). get_or cells q (pos 0) ∷ l) (drop_all (q + 1) cells (omega arith)))

any-default : (xs : List ℤ) (k : ℕ) (d e : ℤ) → k < length xs → get_or xs k d ≡ get_or xs k e
any-default xs k d e lt = let p = slice_get-get_or xs k d lt in let q = slice_get-get_or xs k e lt in cc

-- what was read is spelled where it is of the type, and shorter than its runs
pub spelled-raw : (kind : FieldType) (bytes : List ℕ) (cells : List ℤ) → length bytes ≡ raw_size kind cells
    → ((k : ℕ) → k < length cells → get_or cells k (pos 0) ≡ raw_at kind bytes k) → ((k : ℕ) → k < length cells → Fits kind (raw_at kind bytes k)) → length bytes < runs_size kind (raw_cells kind bytes) → IsRawSpelling kind bytes cells
spelled-raw kind bytes cells whole each fit short =
    let same = raw-cells kind bytes cells whole each in
    record {
      whole = whole;
      fit = λ k d l. subst (Fits kind) (sym (any-default cells k d (pos 0) l ∙ each k l)) (fit k l);
      shorter = subst (λ (l : List ℤ). length bytes < runs_size kind l) (sym same) short;
      cells_are = same;
    }

-- and else nothing is
pub not-shorter : (kind : FieldType) (bytes : List ℕ) (list : List ℤ) → (length bytes < runs_size kind (raw_cells kind bytes) → ⊥) → IsRawSpelling kind bytes list → ⊥
not-shorter kind bytes list long s = long (subst (λ (l : List ℤ). length bytes < runs_size kind l) s.cells_are s.shorter)

-- as many values as there is room for
pub raw-length : (kind : FieldType) (bytes : List ℕ) → length (raw_cells kind bytes) ≡ raw_count kind bytes
unfolding raw_cells
raw-length kind bytes = length-map-range_with_len (raw_at kind bytes) 0 (raw_count kind bytes)

-- a value that the bytes have room for is one of those that they read as
raw-place : (kind : FieldType) (bytes : List ℕ) (k : ℕ) → k * width_of kind + width_of kind ≤ length bytes → k < length (raw_cells kind bytes)
raw-place kind bytes k h =
    let some = some-width kind in
    let count = raw-length kind bytes in
    let room = div-lt_iff_lt-mul {k = width_of kind} {x = length bytes} {y = k + 1} (omega arith) in
    elim (cases_lt (raw_count kind bytes) (k + 1)) [
      | inl lt ↦ (let short = room.0 lt in absurd (omega arith))
      | inr ge ↦ omega (arith, count, ge)
    ]

raw-value : (kind : FieldType) (bytes : List ℕ) (k : ℕ) → k * width_of kind + width_of kind ≤ length bytes → get_or (raw_cells kind bytes) k (pos 0) ≡ raw_at kind bytes k
unfolding raw_cells
raw-value kind bytes k h =
    let place = raw-place kind bytes k h in
    let count = raw-length kind bytes in
    get_or-map-range_with_len (raw_at kind bytes) 0 (raw_count kind bytes) k k (pos 0) (omega (arith, place, count)) (omega arith)

-- the runs of the values from one place on, by those from the next
changes-step : (kind : FieldType) (bytes : List ℕ) (q p : ℕ) → q + 1 ≡ p → p * width_of kind + width_of kind ≤ length bytes
    → runs_from kind bytes q ≡ cond (int_eq (raw_at kind bytes q) (raw_at kind bytes p)) 0 1 + runs_from kind bytes p
changes-step kind bytes q p e h =
    let before : (q + 1) * width_of kind ≤ p * width_of kind = mul-le-mul_right (width_of kind) (omega arith) in
    let last = raw-value kind bytes q (omega (arith, before, h)) in
    let here = raw-value kind bytes p h in
    runs-step (raw_cells kind bytes) q p e (raw-place kind bytes p h) ∙ ap₂ (λ (a b : ℤ). cond (int_eq a b) 0 1 + runs_from kind bytes p) last here

one-of-two : (b : Bool) → cond b 1 0 + cond b 0 1 ≡ 1
one-of-two true = refl
one-of-two false = refl

-- with the next value there is a run less behind, or it is the value before it once more
pub repeats-step : (kind : FieldType) (bytes : List ℕ) (q p : ℕ) → q + 1 ≡ p → p * width_of kind + width_of kind ≤ length bytes
    → cond (int_eq (raw_at kind bytes q) (raw_at kind bytes p)) 1 0 + runs_from kind bytes q ≡ 1 + runs_from kind bytes p
repeats-step kind bytes q p e h =
    omega (arith, changes-step kind bytes q p e h, one-of-two (int_eq (raw_at kind bytes q) (raw_at kind bytes p)))

-- from a place that is there at least one run begins
pub some-run : (cells : List ℤ) (q : ℕ) → q < length cells → 1 ≤ runs_in (drop q cells)
some-run cells q h = (runs-bounds (drop q cells) (let long = length-drop q cells in omega arith)).0

-- runs that were counted no further than needed take more than so many bytes exactly where they were too many
pub counted-short : (bytes size runs all : ℕ) → 1 ≤ size → (runs ≤ bytes / size → runs ≡ all) → (bytes / size < runs → bytes / size < all) → (bytes / size < runs) ↔ (bytes < all * size)
counted-short bytes size runs all some exact more =
    let within = div-lt_iff_lt-mul {k = size} {x = bytes} {y = all} (omega arith) in (
      (λ h. within.0 (more h)),
      λ short. elim (cases_lt (bytes / size) runs) [
        | inl lt ↦ lt
        | inr ge ↦ (let e = exact ge in let lt = within.1 short in absurd (omega arith))
      ],
    )

-- a value was put behind those before it, whatever stands behind
pub put-more : (kind : FieldType) (cells : List ℤ) (old new rest : List ℕ) (at size : ℕ) (z : ℤ) → size ≡ width_of kind → IsRawWritten kind cells (take (at * width_of kind) old) at → Fits kind z → z ≡ get_or cells at (pos 0)
    → new ≡ take (at * size) old ++ (little_bytes size (low_bytes w64 size z) ++ rest) → IsRawWritten kind cells (take ((at + 1) * width_of kind) new) (at + 1)
put-more kind cells old new rest at size z es w fit value is =
    let front = take (at * width_of kind) old in
    let more = little_bytes (width_of kind) (low_bytes w64 (width_of kind) z) in
    let there : new ≡ (front ++ more) ++ rest = is ∙ ap (λ (s : ℕ). take (at * s) old ++ (little_bytes s (low_bytes w64 s z) ++ rest)) es ∙ sym (append_assoc front more rest) in
    let next = written-more kind cells front at z w fit value in
    let taken : take ((at + 1) * width_of kind) new ≡ front ++ more = ap (take ((at + 1) * width_of kind)) there ∙ ap (λ (n : ℕ). take n ((front ++ more) ++ rest)) (sym next.whole) ∙ take-append_seam (front ++ more) rest in
    subst (λ (l : List ℕ). IsRawWritten kind cells l (at + 1)) (sym taken) next

-- no values make no runs
pub no-runs : (cells : List ℤ) → length cells ≡ 0 → runs_in cells ≡ 0
no-runs [] h = refl
no-runs (x ∷ xs) h = absurd (omega arith)
