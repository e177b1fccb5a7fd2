-- Values of no more than 4 bytes have room in 32 bits.
use Rattle.std.proofs.Common.{ℕ, ◌+◌, ◌*◌, ◌^◌, ◌<◌, ◌≤◌, List, drop, get_or, arith, sym, subst, FitsSigned, get_or-drop}
use Rattle.std.proofs.lemmas.Int.{ints}
use Rattle.std.proofs.lemmas.Bool.Decides.{nat_tests}
use Rattle.std.specs.Int.{w32}
use Rattle.byteorder.specs.Endian.{little_number}
use Rattle.byteorder.specs.Numbers.{little_from-lt}
use Rattle.arr_core.specs.declared.cell.FieldType.{FieldType}
use Rattle.arr_core.specs.declared.cell.FieldType.TheVariants as variant
use Rattle.run_tile.specs.Types.{width_of, value_of}
use Rattle.run_tile.specs.Raw.{raw_at}

value-short : (kind : FieldType) (n : ℕ) → width_of kind ≤ 4 → n < 256 ^ width_of kind → FitsSigned w32 (value_of kind n)
value-short variant.Bool n short below = grind (arith, ints, nat_tests)
value-short variant.U8 n short below = grind (arith, ints, nat_tests)
value-short variant.I16 n short below = grind (arith, ints, nat_tests)
value-short variant.I32 n short below = grind (arith, ints, nat_tests)
value-short variant.I64 n short below = absurd (omega arith)

pub raw-short : (kind : FieldType) (bytes : List ℕ) (k : ℕ) → width_of kind ≤ 4 → ((i : ℕ) → get_or bytes i 0 < 256) → FitsSigned w32 (raw_at kind bytes k)
unfolding raw_at
raw-short kind bytes k short small =
    let from = k * width_of kind in
    let below = little_from-lt 0 (width_of kind) (drop from bytes) (λ i. subst (λ (n : ℕ). n < 256) (sym (get_or-drop from bytes i 0)) (small (from + i))) in
    value-short kind (little_number (width_of kind) (drop from bytes)) short below
