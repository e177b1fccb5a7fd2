-- What was written as a value, and then as a run, reads back.
use Rattle.std.proofs.Common.{◌≡◌, ℕ, ◌*◌, ◌^◌, ◌<◌, ℤ, List, ◌++◌, length, take, [], sym, ap, ap₂, append-nil, ◌∙◌, arith, length-append, append_assoc, take_at, mod-lt}
use Rattle.std.proofs.lemmas.Int.{ints}
use Rattle.std.proofs.lemmas.Bool.Decides.{nat_tests}
use Rattle.std.specs.Int.{w64, cast_unsigned}
use Rattle.std.proofs.Math.Nat.{one-le-pow}
use Rattle.byteorder.proofs.Bytes.{pow256}
use Rattle.byteorder.specs.Endian.{little_bytes, little_number, low_bytes}
use Rattle.byteorder.specs.Numbers.{little_number-reads_back, length-bytes_low_first}
use Rattle.arr_core.specs.declared.cell.FieldType.{FieldType}
use Rattle.arr_core.specs.Cells.{Fits}
use Rattle.run_tile.specs.Types.{width_of, value_of}
use Rattle.run_tile.specs.Runs.{run_size, run_of, IsRun}
use Rattle.run_tile.specs.Bytes.{run_bytes}
use Rattle.run_tile.specs.declared.run.Run.{Run}

pub value-back : (kind : FieldType) (z : ℤ) → Fits kind z → value_of kind (low_bytes w64 (width_of kind) z) ≡ z
value-back kind z h = grind (arith, ints, nat_tests)

low_bytes-fit : (n : ℕ) (z : ℤ) → low_bytes w64 n z < 256 ^ n
low_bytes-fit n z = rw (pow256 n) (mod-lt (cast_unsigned w64 z) (one-le-pow (8 * n) 2 (omega arith)))

-- a value reads back from its own bytes
pub value-read : (kind : FieldType) (z : ℤ) → Fits kind z → value_of kind (little_number (width_of kind) (little_bytes (width_of kind) (low_bytes w64 (width_of kind) z))) ≡ z
value-read kind z h =
    let value = little_bytes (width_of kind) (low_bytes w64 (width_of kind) z) in
    let number = ap (little_number (width_of kind)) (sym (append-nil value)) ∙ little_number-reads_back (width_of kind) (low_bytes w64 (width_of kind) z) [] (low_bytes-fit (width_of kind) z) in
    ap (value_of kind) number ∙ value-back kind z h

pub length-run_bytes : (kind : FieldType) (r : Run) → length (run_bytes kind r) ≡ run_size kind
unfolding run_bytes
length-run_bytes kind r =
    omega (arith, length-append (little_bytes 2 r.count) (little_bytes (width_of kind) (low_bytes w64 (width_of kind) r.value)), length-bytes_low_first 0 2 r.count, length-bytes_low_first 0 (width_of kind) (low_bytes w64 (width_of kind) r.value))

-- the run that its bytes read as
pub run-back : (kind : FieldType) (r : Run) → IsRun kind r → run_of kind (run_bytes kind r) ≡ r
unfolding run_bytes
run-back kind r h =
    let value = little_bytes (width_of kind) (low_bytes w64 (width_of kind) r.value) in
    let number = ap (little_number (width_of kind)) (sym (append-nil value)) ∙ little_number-reads_back (width_of kind) (low_bytes w64 (width_of kind) r.value) [] (low_bytes-fit (width_of kind) r.value) in
    ap₂ (λ (c : ℕ) (z : ℤ). let q : Run = record { count = c; value = z } in q) (little_number-reads_back 2 r.count value (omega arith)) (ap (value_of kind) number ∙ value-back kind r.value h.2)

-- what is written in two steps
pub run-written : (kind : FieldType) (r : Run) (old mid new count value rest : List ℕ) (size : ℕ) (z : ℤ) → size ≡ width_of kind → z ≡ r.value → count ≡ little_bytes 2 r.count → mid ≡ old ++ count → value ≡ little_bytes size (low_bytes w64 size z) ++ rest → new ≡ mid ++ take size value → new ≡ old ++ run_bytes kind r
unfolding run_bytes
run-written kind r old mid new count value rest size z es ez ec em ev en =
    let front = take_at (little_bytes size (low_bytes w64 size z)) rest size (length-bytes_low_first 0 size (low_bytes w64 size z)) in
    let written = ap (take size) ev ∙ front ∙ ap₂ (λ (s : ℕ) (v : ℤ). little_bytes s (low_bytes w64 s v)) es ez in
    en ∙ ap₂ (λ (xs ys : List ℕ). xs ++ ys) (em ∙ ap (λ (xs : List ℕ). old ++ xs) ec) written ∙ append_assoc old (little_bytes 2 r.count) _
