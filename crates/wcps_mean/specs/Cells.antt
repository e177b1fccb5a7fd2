-- Operations on cells: exact, and then tested. A Boolean stands as 0 or 1.
use Rattle.std.specs.Prelude.{ℕ, zero, suc, ◌/◌, ◌%◌, ◌^◌, ℤ, pos, negsuc, ◌+ℤ◌, ◌-ℤ◌, ◌*ℤ◌, neg_ℤ, nat_abs, int_div, int_le, int_lt, nat_lt, nat_eq, cond, Bool, true, false, not, ◌&&◌, ◌||◌, ◌≡◌, Result, Ok, Err}
use Rattle.std.specs.Int.{w64, cast_unsigned}
use Rattle.arr_core.specs.Cells.{truth_of}
use Rattle.wcps_text.specs.declared.operator.UnaryOperator.{UnaryOperator}
use Rattle.wcps_text.specs.declared.operator.UnaryOperator.TheVariants.{Negate, Plus, Not, Absolute}
use Rattle.wcps_text.specs.declared.operator.BinaryOperator.{BinaryOperator}
use Rattle.wcps_text.specs.declared.operator.BinaryOperator.TheVariants.{Multiply, Divide, Add, Subtract, Less, LessEqual, Greater, GreaterEqual, Equal, NotEqual, And, Or, Xor, Bit}
use Rattle.wcps_mean.specs.declared.cell.PointFault.{PointFault}
use Rattle.wcps_mean.specs.declared.cell.PointFault.TheVariants.{Overflow, DivideByZero, OutOfDomain, BadBit}
use Rattle.wcps_mean.specs.declared.cell.Outcome.{Outcome}
use Rattle.wcps_mean.specs.declared.cell.Outcome.TheVariants.{Value, Fault}

-- whether an exact result lies in -2^63 to 2^63 - 1
abbrev pub fits_64 : ℤ → Bool
fits_64 (pos n) = nat_lt n (2 ^ 63)
fits_64 (negsuc n) = nat_lt n (2 ^ 63)

-- the range test: the exact result, or Overflow
abbrev pub ranged : ℤ → Outcome
ranged z = cond (fits_64 z) (Value z) (Fault Overflow)

-- a truth value as a number, 1 or 0
abbrev pub number : Bool → ℤ
number true = pos 1
number false = pos 0

abbrev pub truth : Bool → Outcome
truth b = Value (number b)

abbrev pub int_eq : ℤ → ℤ → Bool
int_eq x y = int_le x y && int_le y x

-- truncated toward zero; a divisor that is 0 is DivideByZero
abbrev pub quotient : ℤ → ℤ → Outcome
quotient x (pos zero) = Fault DivideByZero
quotient x (pos (suc n)) = ranged (int_div x (pos (suc n)))
quotient x (negsuc n) = ranged (int_div x (negsuc n))

-- the bits of a number
abbrev pub number_bits : ℕ
number_bits = 64

-- bit i of the two's complement of x on 64 bits
abbrev pub bit_is_set : ℤ → ℕ → Bool
bit_is_set x i = nat_eq (cast_unsigned w64 x / 2 ^ i % 2) 1

-- a bit by its number, which begins with 0
abbrev pub bit : ℤ → ℤ → Outcome
bit x (pos i) = cond (nat_lt i number_bits) (truth (bit_is_set x i)) (Fault BadBit)
bit x (negsuc i) = Fault BadBit

-- two truth values that differ
abbrev pub differ : Bool → Bool → Bool
differ true b = not b
differ false b = b

-- of a value
abbrev pub exact1 : UnaryOperator → ℤ → Outcome
exact1 Negate x = ranged (neg_ℤ x)
exact1 Plus x = Value x
exact1 Not x = truth (not (truth_of x))
exact1 Absolute x = ranged (pos (nat_abs x))

-- of two values
abbrev pub exact2 : BinaryOperator → ℤ → ℤ → Outcome
exact2 Multiply x y = ranged (x *ℤ y)
exact2 Divide x y = quotient x y
exact2 Add x y = ranged (x +ℤ y)
exact2 Subtract x y = ranged (x -ℤ y)
exact2 Less x y = truth (int_lt x y)
exact2 LessEqual x y = truth (int_le x y)
exact2 Greater x y = truth (int_lt y x)
exact2 GreaterEqual x y = truth (int_le y x)
exact2 Equal x y = truth (int_eq x y)
exact2 NotEqual x y = truth (not (int_eq x y))
exact2 And x y = truth (truth_of x && truth_of y)
exact2 Or x y = truth (truth_of x || truth_of y)
exact2 Xor x y = truth (differ (truth_of x) (truth_of y))
exact2 Bit x y = bit x y

-- the operand's fault, else the operation's own outcome
abbrev pub operate1 : UnaryOperator → Outcome → Outcome
operate1 op (Fault f) = Fault f
operate1 op (Value x) = exact1 op x

-- the left operand's fault, else the right one's, else the operation's own outcome
abbrev pub operate2 : BinaryOperator → Outcome → Outcome → Outcome
operate2 op (Fault f) r = Fault f
operate2 op (Value x) (Fault f) = Fault f
operate2 op (Value x) (Value y) = exact2 op x y

-- a position as a coordinate from lo to hi, or its fault
abbrev pub coordinate_in : Outcome → ℤ → ℤ → Result ℤ PointFault
coordinate_in (Fault f) lo hi = Err f
coordinate_in (Value z) lo hi = cond (int_le lo z && int_le z hi) (Ok z) (Err OutOfDomain)

-- goes on with a coordinate that lies from lo to hi
abbrev pub at_position : Outcome → ℤ → ℤ → (ℤ → Outcome) → Outcome
at_position (Fault f) lo hi go = Fault f
at_position (Value z) lo hi go = cond (int_le lo z && int_le z hi) (go z) (Fault OutOfDomain)

-- what a tested position makes of all that goes on: it goes on with the coordinate, or ends in the fault
abbrev pub TestsAs : Result ℤ PointFault → ((ℤ → Outcome) → Outcome) → Type 0
TestsAs (Ok z) at = (go : ℤ → Outcome) → at go ≡ go z
TestsAs (Err f) at = (go : ℤ → Outcome) → at go ≡ Fault f
